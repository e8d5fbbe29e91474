-- The operations on spans enclose the exact results.
use Rattle.std.proofs.Common.{◌≡◌, ℕ, ◌^◌, ◌<◌, ◌+◌, ◌*◌, ap, sym, ◌∙◌, ℤ, pos, ◌≤ℤ◌, ◌+ℤ◌, ◌-ℤ◌, ◌*ℤ◌, arith, Some, None, ◌&&◌}
use Rattle.std.proofs.lemmas.Int.{ints, clamps}
use Rattle.std.proofs.lemmas.Nat.{pow_pos, pow-add}
use Rattle.std.specs.Prelude.{Option, IfSome}
use Rattle.std.specs.Int.{int_min, int_max}
use Rattle.std.specs.Int.Signed.{≤ℤ_refl}
use Rattle.std.proofs.Math.IntN.{zero-*ℤ}
use Rattle.std.proofs.lemmas.Option.{cond_some}
use Rattle.sk_num.specs.Whole.{*ℤ-+ℤ_right, *ℤ--ℤ_right, +ℤ-le, -ℤ-le, ≤ℤ_trans, *ℤ-le_pos, *ℤ-le_cancel, product-above_corners, product-below_corners, *ℤ_swap, *ℤ_turn, *ℤ_assoc}
use Rattle.sk_num.specs.Division.{floor_by-below, ceil_by-above}
use Rattle.sk_num.specs.Limit.{is_in_limit}
use Rattle.sk_num.specs.Rounding.{floor_at, ceil_at}
use Rattle.sk_num.specs.Ends.{Ends, point, span_between, span_add, span_sub, span_mul, least_product, greatest_product}
use Rattle.sk_num.specs.Enclosed.{Encloses}

-- a span that is there has the ends that it was made of
pub span_between-some : (lo hi : ℤ) (c : Ends) → span_between lo hi ≡ Some c → (c.lo ≡ lo) × (c.hi ≡ hi)
span_between-some lo hi c e =
    let s = (cond_some (is_in_limit lo && is_in_limit hi) (record { lo = lo; hi = hi }) c e).1 in
    (sym (ap (λ e. e.lo) s), sym (ap (λ e. e.hi) s))

-- ---- leaves

pub Encloses-point : (s m : ℕ) (g : ℤ) → Encloses s (s + m) (point g) (g *ℤ pos (2 ^ m))
Encloses-point s m g =
    let e : g *ℤ pos (2 ^ (s + m)) ≡ (g *ℤ pos (2 ^ m)) *ℤ pos (2 ^ s) =
    ap (λ n. g *ℤ pos n) (pow-add 2 s m) ∙ sym (*ℤ_assoc g (pos (2 ^ s)) (pos (2 ^ m))) ∙ *ℤ_turn g (pos (2 ^ s)) (pos (2 ^ m)) in
    record { low = rw e (≤ℤ_refl _); high = rw e (≤ℤ_refl _) }

pub Encloses-zero : (s m : ℕ) → Encloses s m (point (pos 0)) (pos 0)
Encloses-zero s m =
    let a = zero-*ℤ (pos (2 ^ m)) in
    let b = zero-*ℤ (pos (2 ^ s)) in
    record { low = rw (a, b) (≤ℤ_refl _); high = rw (a, b) (≤ℤ_refl _) }

-- ---- the same number over a greater power

pub Encloses-scale : (s j m : ℕ) (e : Ends) (x : ℤ) → Encloses s m e x → Encloses s (m + j) e (x *ℤ pos (2 ^ j))
Encloses-scale s j m e x h =
    let over : (a : ℤ) (n : ℕ) → a *ℤ (pos n *ℤ pos (2 ^ j)) ≡ (a *ℤ pos n) *ℤ pos (2 ^ j) = λ a n. sym (*ℤ_assoc a (pos n) (pos (2 ^ j))) in
    let turn = *ℤ_turn x (pos (2 ^ j)) (pos (2 ^ s)) in
    record {
      low = rw (pow-add 2 m j, turn, over e.lo (2 ^ m)) (*ℤ-le_pos (2 ^ j) (e.lo *ℤ pos (2 ^ m)) (x *ℤ pos (2 ^ s)) h.low);
      high = rw (pow-add 2 m j, turn, over e.hi (2 ^ m)) (*ℤ-le_pos (2 ^ j) (x *ℤ pos (2 ^ s)) (e.hi *ℤ pos (2 ^ m)) h.high);
    }

-- ---- sums and differences

pub Encloses-add : (s m : ℕ) (a b c : Ends) (x y : ℤ) → Encloses s m a x → Encloses s m b y → span_add a b ≡ Some c → Encloses s m c (x +ℤ y)
Encloses-add s m a b c x y h k e =
    let f = span_between-some (a.lo +ℤ b.lo) (a.hi +ℤ b.hi) c e in
    record {
      low = rw (f.0, *ℤ-+ℤ_right a.lo b.lo (pos (2 ^ m)), *ℤ-+ℤ_right x y (pos (2 ^ s))) (+ℤ-le h.low k.low);
      high = rw (f.1, *ℤ-+ℤ_right a.hi b.hi (pos (2 ^ m)), *ℤ-+ℤ_right x y (pos (2 ^ s))) (+ℤ-le h.high k.high);
    }

pub Encloses-sub : (s m : ℕ) (a b c : Ends) (x y : ℤ) → Encloses s m a x → Encloses s m b y → span_sub a b ≡ Some c → Encloses s m c (x -ℤ y)
Encloses-sub s m a b c x y h k e =
    let f = span_between-some (a.lo -ℤ b.hi) (a.hi -ℤ b.lo) c e in
    record {
      low = rw (f.0, *ℤ--ℤ_right a.lo b.hi (pos (2 ^ m)), *ℤ--ℤ_right x y (pos (2 ^ s))) (-ℤ-le h.low k.high);
      high = rw (f.1, *ℤ--ℤ_right a.hi b.lo (pos (2 ^ m)), *ℤ--ℤ_right x y (pos (2 ^ s))) (-ℤ-le h.high k.low);
    }

-- ---- products

-- a corner's product over both powers
corner-low : (l u v : ℤ) (m n : ℕ) → l ≤ℤ (u *ℤ v) → (l *ℤ pos (2 ^ m * 2 ^ n)) ≤ℤ ((u *ℤ pos (2 ^ m)) *ℤ (v *ℤ pos (2 ^ n)))
corner-low l u v m n h = rw (*ℤ_swap u (pos (2 ^ m)) v (pos (2 ^ n))) (*ℤ-le_pos (2 ^ m * 2 ^ n) l (u *ℤ v) h)

corner-high : (g u v : ℤ) (m n : ℕ) → (u *ℤ v) ≤ℤ g → ((u *ℤ pos (2 ^ m)) *ℤ (v *ℤ pos (2 ^ n))) ≤ℤ (g *ℤ pos (2 ^ m * 2 ^ n))
corner-high g u v m n h = rw (*ℤ_swap u (pos (2 ^ m)) v (pos (2 ^ n))) (*ℤ-le_pos (2 ^ m * 2 ^ n) (u *ℤ v) g h)

pub least-of : (p q r s : ℤ) → let l = int_min (int_min p q) (int_min r s) in (l ≤ℤ p) × (l ≤ℤ q) × (l ≤ℤ r) × (l ≤ℤ s)
least-of p q r s = (omega (arith, ints, clamps), omega (arith, ints, clamps), omega (arith, ints, clamps), omega (arith, ints, clamps))

pub greatest-of : (p q r s : ℤ) → let g = int_max (int_max p q) (int_max r s) in (p ≤ℤ g) × (q ≤ℤ g) × (r ≤ℤ g) × (s ≤ℤ g)
greatest-of p q r s = (omega (arith, ints, clamps), omega (arith, ints, clamps), omega (arith, ints, clamps), omega (arith, ints, clamps))

-- a factor t may be left out on both sides
cancel-low : (f x y : ℤ) (t p : ℕ) → 0 < t → ((f *ℤ pos t) *ℤ pos p) ≤ℤ ((x *ℤ pos t) *ℤ (y *ℤ pos t)) → (f *ℤ pos p) ≤ℤ ((x *ℤ y) *ℤ pos t)
cancel-low f x y t p h k =
    let left = *ℤ_turn f (pos t) (pos p) in
    let right : (x *ℤ pos t) *ℤ (y *ℤ pos t) ≡ ((x *ℤ y) *ℤ pos t) *ℤ pos t = *ℤ_swap x (pos t) y (pos t) ∙ sym (*ℤ_assoc (x *ℤ y) (pos t) (pos t)) in
    *ℤ-le_cancel t _ _ h (rw (← left, ← right) k)

cancel-high : (f x y : ℤ) (t p : ℕ) → 0 < t → ((x *ℤ pos t) *ℤ (y *ℤ pos t)) ≤ℤ ((f *ℤ pos t) *ℤ pos p) → ((x *ℤ y) *ℤ pos t) ≤ℤ (f *ℤ pos p)
cancel-high f x y t p h k =
    let left = *ℤ_turn f (pos t) (pos p) in
    let right : (x *ℤ pos t) *ℤ (y *ℤ pos t) ≡ ((x *ℤ y) *ℤ pos t) *ℤ pos t = *ℤ_swap x (pos t) y (pos t) ∙ sym (*ℤ_assoc (x *ℤ y) (pos t) (pos t)) in
    *ℤ-le_cancel t _ _ h (rw (← left, ← right) k)

pub Encloses-mul : (s m n : ℕ) (a b c : Ends) (x y : ℤ) → Encloses s m a x → Encloses s n b y → span_mul s a b ≡ Some c → Encloses s (m + n) c (x *ℤ y)
Encloses-mul s m n a b c x y h k e =
    let l = least_product a b in
    let g = greatest_product a b in
    let p = 2 ^ m * 2 ^ n in
    let f = span_between-some (floor_at s l) (ceil_at s g) c e in
    let ls = least-of (a.lo *ℤ b.lo) (a.lo *ℤ b.hi) (a.hi *ℤ b.lo) (a.hi *ℤ b.hi) in
    let gs = greatest-of (a.lo *ℤ b.lo) (a.lo *ℤ b.hi) (a.hi *ℤ b.lo) (a.hi *ℤ b.hi) in
    let least = product-above_corners _ _ _ _ _ _ (l *ℤ pos p) h.low h.high k.low k.high
    (corner-low l a.lo b.lo m n ls.0) (corner-low l a.lo b.hi m n ls.1) (corner-low l a.hi b.lo m n ls.2) (corner-low l a.hi b.hi m n ls.3) in
    let greatest = product-below_corners _ _ _ _ _ _ (g *ℤ pos p) h.low h.high k.low k.high
    (corner-high g a.lo b.lo m n gs.0) (corner-high g a.lo b.hi m n gs.1) (corner-high g a.hi b.lo m n gs.2) (corner-high g a.hi b.hi m n gs.3) in
    let down = *ℤ-le_pos p (floor_at s l *ℤ pos (2 ^ s)) l (floor_by-below l (2 ^ s) (pow_pos s)) in
    let up = *ℤ-le_pos p g (ceil_at s g *ℤ pos (2 ^ s)) (ceil_by-above g (2 ^ s) (pow_pos s)) in
    record {
      low = rw (f.0, pow-add 2 m n) (cancel-low (floor_at s l) x y (2 ^ s) p (pow_pos s) (≤ℤ_trans down least));
      high = rw (f.1, pow-add 2 m n) (cancel-high (ceil_at s g) x y (2 ^ s) p (pow_pos s) (≤ℤ_trans greatest up));
    }

-- ---- the same, said of an answer

pub span_add-encloses : (s : ℕ) (a b : Ends) (r : Option Ends) → r ≡ span_add a b → IfSome r (λ c. (m : ℕ) (x y : ℤ) → Encloses s m a x → Encloses s m b y → Encloses s m c (x +ℤ y))
span_add-encloses s a b None e = tt
span_add-encloses s a b (Some c) e = λ m x y h k. Encloses-add s m a b c x y h k (sym e)

pub span_sub-encloses : (s : ℕ) (a b : Ends) (r : Option Ends) → r ≡ span_sub a b → IfSome r (λ c. (m : ℕ) (x y : ℤ) → Encloses s m a x → Encloses s m b y → Encloses s m c (x -ℤ y))
span_sub-encloses s a b None e = tt
span_sub-encloses s a b (Some c) e = λ m x y h k. Encloses-sub s m a b c x y h k (sym e)

pub span_mul-encloses : (s : ℕ) (a b : Ends) (r : Option Ends) → r ≡ span_mul s a b → IfSome r (λ c. (m n : ℕ) (x y : ℤ) → Encloses s m a x → Encloses s n b y → Encloses s (m + n) c (x *ℤ y))
span_mul-encloses s a b None e = tt
span_mul-encloses s a b (Some c) e = λ m n x y h k. Encloses-mul s m n a b c x y h k (sym e)
