-- Quotients of whole numbers, rounded down, up, and to the nearest.
use Rattle.std.proofs.Common.{◌≡◌, ℕ, suc, ◌<◌, ◌≤◌, ◌+◌, ◌*◌, ◌/◌, ◌^◌, ap, ◌∙◌, ℤ, pos, negsuc, neg_ℤ, ◌≤ℤ◌, ◌+ℤ◌, ◌-ℤ◌, ◌*ℤ◌, arith, Bool, true, false, not, ◌⊎◌, inl, inr, ⊎_elim}
use Rattle.std.specs.Prelude.{◌<ℤ◌, unsigned_abs}
use Rattle.std.specs.Int.{int_div_euclid, is_negative}
use Rattle.std.proofs.lemmas.Int.{ints, unsigned_abs-mul}
use Rattle.std.proofs.Math.Nat.{mul-le-mul_right}
use Rattle.std.proofs.Math.IntN.{pos-*ℤ-pos, pos-*ℤ-negsuc, zero-*ℤ, neg_ℤ-neg_ℤ}
use Rattle.sk_num.specs.Whole.{*ℤ-le_cancel, *ℤ-lt_cancel, one-*ℤ, *ℤ-+ℤ_right, neg_ℤ-*ℤ, ≤ℤ_trans}

-- a / k, rounded down
abbrev pub floor_by : ℤ → ℕ → ℤ
floor_by a k = int_div_euclid a (pos k)

-- a / k, rounded up
abbrev pub ceil_by : ℤ → ℕ → ℤ
ceil_by a k = neg_ℤ (int_div_euclid (neg_ℤ a) (pos k))

-- ---- rounded down: q k ≤ a < q k + k, and q is the greatest such

pub floor_by-below : (a : ℤ) (k : ℕ) → 0 < k → (floor_by a k *ℤ pos k) ≤ℤ a
floor_by-below (pos a) k h = omega (arith, ints)
floor_by-below (negsuc a) k h = omega (arith, ints)

pub floor_by-above : (a : ℤ) (k : ℕ) → 0 < k → a <ℤ (floor_by a k *ℤ pos k +ℤ pos k)
floor_by-above (pos a) k h = omega (arith, ints)
floor_by-above (negsuc a) k h = omega (arith, ints)

pub floor_by-greatest : (a z : ℤ) (k : ℕ) → 0 < k → (z *ℤ pos k) ≤ℤ a → z ≤ℤ floor_by a k
floor_by-greatest a z k h l =
    let b = floor_by-above a k h in
    let e = *ℤ-+ℤ_right (floor_by a k) (pos 1) (pos k) in
    let under : z <ℤ (floor_by a k +ℤ pos 1) = *ℤ-lt_cancel k z (floor_by a k +ℤ pos 1) (rw e (omega (arith, ints, b, l, one-*ℤ (pos k)))) in
    omega (arith, ints, under)

pub floor_by-le : (a b : ℤ) (k : ℕ) → 0 < k → a ≤ℤ b → floor_by a k ≤ℤ floor_by b k
floor_by-le a b k h l = floor_by-greatest b (floor_by a k) k h (≤ℤ_trans (floor_by-below a k h) l)

pub floor_by-only : (a q : ℤ) (k : ℕ) → 0 < k → (q *ℤ pos k) ≤ℤ a → a <ℤ (q *ℤ pos k +ℤ pos k) → floor_by a k ≡ q
floor_by-only a q k h l u =
    let least = floor_by-greatest a q k h l in
    let e = *ℤ-+ℤ_right q (pos 1) (pos k) in
    let under : floor_by a k <ℤ (q +ℤ pos 1) = *ℤ-lt_cancel k (floor_by a k) (q +ℤ pos 1) (rw e (omega (arith, ints, u, floor_by-below a k h, one-*ℤ (pos k)))) in
    omega (arith, ints, least, under)

-- ---- rounded up: q k - k < a ≤ q k, and q is the least such

pub ceil_by-above : (a : ℤ) (k : ℕ) → 0 < k → a ≤ℤ (ceil_by a k *ℤ pos k)
ceil_by-above a k h =
    let f = floor_by-below (neg_ℤ a) k h in
    rw (neg_ℤ-*ℤ (floor_by (neg_ℤ a) k) (pos k)) (omega (arith, ints, f))

pub ceil_by-below : (a : ℤ) (k : ℕ) → 0 < k → (ceil_by a k *ℤ pos k) <ℤ (a +ℤ pos k)
ceil_by-below a k h =
    let f = floor_by-above (neg_ℤ a) k h in
    rw (neg_ℤ-*ℤ (floor_by (neg_ℤ a) k) (pos k)) (omega (arith, ints, f))

pub ceil_by-least : (a z : ℤ) (k : ℕ) → 0 < k → a ≤ℤ (z *ℤ pos k) → ceil_by a k ≤ℤ z
ceil_by-least a z k h l =
    let f = floor_by-greatest (neg_ℤ a) (neg_ℤ z) k h (rw (neg_ℤ-*ℤ z (pos k)) (omega (arith, ints, l))) in
    omega (arith, ints, f)

pub floor_by-le-ceil_by : (a b : ℤ) (k : ℕ) → 0 < k → a ≤ℤ b → floor_by a k ≤ℤ ceil_by b k
floor_by-le-ceil_by a b k h l =
    *ℤ-le_cancel k (floor_by a k) (ceil_by b k) h (≤ℤ_trans (floor_by-below a k h) (≤ℤ_trans l (ceil_by-above b k h)))

-- ---- rounded to the nearest

abbrev pub signed : Bool → ℕ → ℤ
signed true n = neg_ℤ (pos n)
signed false n = pos n

abbrev pub differ : Bool → Bool → Bool
differ true b = not b
differ false b = b

-- p / q, rounded to the nearest whole number, halves away from zero
abbrev pub nearest : ℤ → ℤ → ℤ
nearest p q = signed (differ (is_negative p) (is_negative q)) ((2 * unsigned_abs p + unsigned_abs q) / (2 * unsigned_abs q))

-- r is the whole number nearest to p / q: no multiple of q is nearer to p than r q, and among two
-- that are as near r is the one away from zero
pub record IsNearest (p q r : ℤ) : Type 0 where
  pub no_nearer : (z : ℤ) → unsigned_abs (p -ℤ r *ℤ q) ≤ unsigned_abs (p -ℤ z *ℤ q)
  pub ties_away : (z : ℤ) → unsigned_abs (p -ℤ z *ℤ q) ≤ unsigned_abs (p -ℤ r *ℤ q) → unsigned_abs z ≤ unsigned_abs r

-- the nearest is the nearest, first of magnitudes: the quotient that rounds halves up
half_up-parts : (a k : ℕ) → 0 < k → let n = (2 * a + k) / (2 * k) in (2 * (n * k) ≤ 2 * a + k) × (2 * a < 2 * (n * k) + k)
half_up-parts a k h = omega arith

nearer : (a k n m : ℕ) → 2 * (n * k) ≤ 2 * a + k → 2 * a < 2 * (n * k) + k → (unsigned_abs (pos a -ℤ pos (n * k)) ≤ unsigned_abs (pos a -ℤ pos (m * k))) × (unsigned_abs (pos a -ℤ pos (m * k)) ≤ unsigned_abs (pos a -ℤ pos (n * k)) → m ≤ n)
nearer a k n m h l = three m n
    (λ (b : m < n). let j : suc m * k ≤ n * k = mul-le-mul_right k b in (omega (arith, ints, j, h, l), λ _. omega (arith, b)))
    (λ (e : m ≡ n). (rw e (omega arith), λ _. omega (arith, e)))
    (λ (b : n < m). let j : suc n * k ≤ m * k = mul-le-mul_right k b in (omega (arith, ints, j, h, l), λ t. absurd (omega (arith, ints, j, h, l, t))))
  where
    three : {P : Type 0} (m n : ℕ) → (m < n → P) → (m ≡ n → P) → (n < m → P) → P
    three m n f g h = grind (arith, f, g, h)

-- the quotient's multiple has the sign of p
is_negative-pos : (a : ℕ) → is_negative (pos a) ≡ false
is_negative-pos a = grind arith

toward : (p q : ℤ) (n : ℕ) → signed (differ (is_negative p) (is_negative q)) n *ℤ q ≡ signed (is_negative p) (n * unsigned_abs q)
toward (pos a) (pos b) n = rw (is_negative-pos a, is_negative-pos b) (pos-*ℤ-pos n b)
toward (pos a) (negsuc b) n = rw (is_negative-pos a) (neg_ℤ-*ℤ (pos n) (negsuc b) ∙ ap neg_ℤ (pos-*ℤ-negsuc n b) ∙ neg_ℤ-neg_ℤ (pos (n * suc b)))
toward (negsuc a) (pos b) n = rw (is_negative-pos b) (neg_ℤ-*ℤ (pos n) (pos b) ∙ ap neg_ℤ (pos-*ℤ-pos n b))
toward (negsuc a) (negsuc b) n = pos-*ℤ-negsuc n b

same_side : (p : ℤ) (c : ℕ) → unsigned_abs (p -ℤ signed (is_negative p) c) ≡ unsigned_abs (pos (unsigned_abs p) -ℤ pos c)
same_side (pos a) c = rw (is_negative-pos a) (omega (arith, ints))
same_side (negsuc a) c = omega (arith, ints)

-- the gap of two numbers is at least that of their magnitudes
gap-magnitudes : (p z : ℤ) → unsigned_abs (pos (unsigned_abs p) -ℤ pos (unsigned_abs z)) ≤ unsigned_abs (p -ℤ z)
gap-magnitudes p z = omega (arith, ints)

unsigned_abs-signed : (s : Bool) (n : ℕ) → unsigned_abs (signed s n) ≡ n
unsigned_abs-signed true n = omega (arith, ints)
unsigned_abs-signed false n = omega (arith, ints)

pub nearest_is : (p q : ℤ) → 0 < unsigned_abs q → IsNearest p q (nearest p q)
nearest_is p q h =
    let a = unsigned_abs p in
    let k = unsigned_abs q in
    let n = (2 * a + k) / (2 * k) in
    let parts = half_up-parts a k h in
    let gap : unsigned_abs (p -ℤ nearest p q *ℤ q) ≡ unsigned_abs (pos a -ℤ pos (n * k)) = rw (toward p q n) (same_side p (n * k)) in
    let other : (z : ℤ) → unsigned_abs (pos a -ℤ pos (unsigned_abs z * k)) ≤ unsigned_abs (p -ℤ z *ℤ q) = λ z. rw (← unsigned_abs-mul z q) (gap-magnitudes p (z *ℤ q)) in
    record {
      no_nearer = λ z. omega (arith, gap, other z, (nearer a k n (unsigned_abs z) parts.0 parts.1).0);
      ties_away = λ z t. rw (unsigned_abs-signed (differ (is_negative p) (is_negative q)) n) ((nearer a k n (unsigned_abs z) parts.0 parts.1).1 (omega (arith, gap, other z, t)));
    }

-- a number over k = 2 h to the nearest is the sum with h rounded down, of a negative one the sum with h - 1
nearest-from_zero : (p h : ℤ) (k : ℕ) → h +ℤ h ≡ pos k → pos 0 <ℤ h → pos 0 ≤ℤ p → floor_by (p +ℤ h) k ≡ nearest p (pos k)
nearest-from_zero (pos a) h k e o _ =
    let n = (2 * a + k) / (2 * k) in
    let parts = half_up-parts a k (omega (arith, ints, e, o)) in
    let m = pos-*ℤ-pos n k in
    rw (is_negative-pos a, is_negative-pos k) (floor_by-only (pos a +ℤ h) (pos n) k (omega (arith, ints, e, o)) (omega (arith, ints, e, m, parts.0)) (omega (arith, ints, e, m, parts.1)))
nearest-from_zero (negsuc a) h k e o l = absurd (omega (arith, ints, l))

nearest-below_zero : (p h : ℤ) (k : ℕ) → h +ℤ h ≡ pos k → pos 0 <ℤ h → p <ℤ pos 0 → floor_by (p +ℤ (h -ℤ pos 1)) k ≡ nearest p (pos k)
nearest-below_zero (pos a) h k e o l = absurd (omega (arith, ints, l))
nearest-below_zero (negsuc a) h k e o _ =
    let n = (2 * suc a + k) / (2 * k) in
    let parts = half_up-parts (suc a) k (omega (arith, ints, e, o)) in
    let m = neg_ℤ-*ℤ (pos n) (pos k) ∙ ap neg_ℤ (pos-*ℤ-pos n k) in
    rw (is_negative-pos k) (floor_by-only (negsuc a +ℤ (h -ℤ pos 1)) (neg_ℤ (pos n)) k (omega (arith, ints, e, o)) (omega (arith, ints, e, m, parts.1)) (omega (arith, ints, e, m, parts.0)))

pub nearest-raised : (p h s : ℤ) (k : ℕ) → h +ℤ h ≡ pos k → pos 0 <ℤ h → unsigned_abs p ≤ 2 ^ 126 → s ≡ floor_by p (2 ^ 127) → floor_by (p +ℤ (h +ℤ s)) k ≡ nearest p (pos k)
nearest-raised (pos a) h s k e o l f =
    let z : h +ℤ s ≡ h = omega (arith, ints, l, f) in
    rw z (nearest-from_zero (pos a) h k e o (omega (arith, ints)))
nearest-raised (negsuc a) h s k e o l f =
    let z : h +ℤ s ≡ h -ℤ pos 1 = omega (arith, ints, l, f) in
    rw z (nearest-below_zero (negsuc a) h k e o (omega (arith, ints)))

-- what is at most c k either way is at most c over k
at_most : (n c k : ℕ) → 0 < k → 2 * (n * k) ≤ 2 * (c * k) + k → n ≤ c
at_most n c k h l = unless n c (λ (b : c < n). let j : suc c * k ≤ n * k = mul-le-mul_right k b in absurd (omega (arith, h, l, j)))
  where
    unless : (n c : ℕ) → (c < n → n ≤ c) → n ≤ c
    unless n c f = grind (arith, f)

pub nearest-within : (p : ℤ) (k c : ℕ) → 0 < k → unsigned_abs p ≤ c * k → unsigned_abs (nearest p (pos k)) ≤ c
nearest-within p k c h l =
    let n = (2 * unsigned_abs p + k) / (2 * k) in
    rw (unsigned_abs-signed (differ (is_negative p) (is_negative (pos k))) n) (at_most n c k h (omega (arith, l, (half_up-parts (unsigned_abs p) k h).0)))

-- and it is the only one
equal_or_opposite : (r t : ℤ) → unsigned_abs r ≡ unsigned_abs t → (r ≡ t) ⊎ (r ≡ neg_ℤ t)
equal_or_opposite (pos a) (pos b) e = inl (omega (arith, ints, e))
equal_or_opposite (pos a) (negsuc b) e = inr (omega (arith, ints, e))
equal_or_opposite (negsuc a) (pos b) e = inr (omega (arith, ints, e))
equal_or_opposite (negsuc a) (negsuc b) e = inl (omega (arith, ints, e))

pub nearest_only : (p q r t : ℤ) → 0 < unsigned_abs q → IsNearest p q r → IsNearest p q t → r ≡ t
nearest_only p q r t h i j =
    let size : unsigned_abs r ≡ unsigned_abs t = omega (arith, i.ties_away t (j.no_nearer r), j.ties_away r (i.no_nearer t)) in
    ⊎_elim (λ e. e) (λ (e : r ≡ neg_ℤ t).
    let turned : r *ℤ q ≡ neg_ℤ (t *ℤ q) = rw e (neg_ℤ-*ℤ t q) in
    let none : unsigned_abs (t *ℤ q) ≡ 0 = omega (arith, ints, turned, i.no_nearer t, j.no_nearer r, i.no_nearer (pos 0), zero-*ℤ q) in
    let zero : unsigned_abs t ≡ 0 = factor_zero (unsigned_abs t) (unsigned_abs q) h (omega (arith, none, unsigned_abs-mul t q)) in
    omega (arith, ints, e, zero)) (equal_or_opposite r t size)
  where
    factor_zero : (m k : ℕ) → 0 < k → m * k ≡ 0 → m ≡ 0
    factor_zero m k h e = grind arith
