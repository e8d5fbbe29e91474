-- The law: the square's bounds hold for each value of pi, and the span encloses the cut.
use Rattle.std.proofs.Common.{◌≡◌, ℕ, ◌+◌, ◌-◌, ◌*◌, ◌^◌, ◌<◌, ◌≤◌, refl, arith, lit≤, ap, sym, ◌∙◌, subst, ℤ, pos, neg_ℤ, ◌*ℤ◌, ◌≤ℤ◌, Bool, true, false}
use Rattle.std.specs.Prelude.{unsigned_abs}
use Rattle.std.proofs.lemmas.Int.{ints}
use Rattle.std.proofs.lemmas.Nat.{pow_pos, pow-add}
use Rattle.std.proofs.Math.Nat.{mul-le-mul, mul-le-mul_left, mul-le-mul_right}
use Rattle.std.proofs.Math.IntN.{pos-*ℤ-pos, neg_ℤ-neg_ℤ}
use Rattle.sk_num.specs.Whole.{*ℤ_assoc, *ℤ_turn, *ℤ-le_pos, *ℤ-le_cancel}
use Rattle.sk_num.specs.Division.{floor_by, ceil_by, floor_by-below, ceil_by-above}
use Rattle.sk_num.specs.Scale.{IsScale, IsScale-bounds}
use Rattle.sk_num.specs.Ends.{Ends}
use Rattle.sk_cosine.specs.Rule.{pi_digits, radian_unit, radian_low, radian_high, square_low, square_high, taylor, folded, folded_ends, is_turned, turn, ends, cosine_ends}
use Rattle.sk_cosine.specs.Cut.{sum_under, sum_top, BoundsSquare, EnclosesCut, CosineCut}
use Rattle.sk_cosine.proofs.Bounds.{quotient-below, quotient_up-above, scale-split, radian_unit-positive}
use Rattle.sk_cosine.proofs.Exact.{taylor-encloses}

-- ---- the square of the radian

square-below : (y r a z : ℕ) → y * 2 ^ 60 ≤ r * r → r * a ≤ 2 ^ 60 * z → y * (a * a) ≤ 2 ^ 60 * (z * z)
square-below y r a z h l =
    let m : (r * a) * (r * a) ≤ (2 ^ 60 * z) * (2 ^ 60 * z) = mul-le-mul l l in
    let t : (y * 2 ^ 60) * (a * a) ≤ (r * r) * (a * a) = mul-le-mul_right (a * a) h in
    let e1 : (r * a) * (r * a) ≡ (r * r) * (a * a) = grind arith in
    let e2 : (2 ^ 60 * z) * (2 ^ 60 * z) ≡ 2 ^ 60 * (2 ^ 60 * (z * z)) = grind arith in
    let e3 : (y * 2 ^ 60) * (a * a) ≡ 2 ^ 60 * (y * (a * a)) = grind arith in
    omega arith

square-above : (y r a z : ℕ) → r * r ≤ y * 2 ^ 60 → 2 ^ 60 * z ≤ r * a → 2 ^ 60 * (z * z) ≤ y * (a * a)
square-above y r a z h l =
    let m : (2 ^ 60 * z) * (2 ^ 60 * z) ≤ (r * a) * (r * a) = mul-le-mul l l in
    let t : (r * r) * (a * a) ≤ (y * 2 ^ 60) * (a * a) = mul-le-mul_right (a * a) h in
    let e1 : (r * a) * (r * a) ≡ (r * r) * (a * a) = grind arith in
    let e2 : (2 ^ 60 * z) * (2 ^ 60 * z) ≡ 2 ^ 60 * (2 ^ 60 * (z * z)) = grind arith in
    let e3 : (y * 2 ^ 60) * (a * a) ≡ 2 ^ 60 * (y * (a * a)) = grind arith in
    omega arith

radian-below : (c r w d p q : ℕ) → r * (4291534423828125 * w) ≤ 4 * d * c → c * q ≤ p * 10 ^ 20 → r * (180 * (2 ^ 36 * w) * q) ≤ 2 ^ 60 * (d * p)
radian-below c r w d p q h l =
    let m : (r * (4291534423828125 * w)) * q ≤ (4 * d * c) * q = mul-le-mul_right q h in
    let n : (4 * d) * (c * q) ≤ (4 * d) * (p * 10 ^ 20) = mul-le-mul_left (4 * d) l in
    let e1 : (r * (4291534423828125 * w)) * q ≡ 4291534423828125 * (r * w * q) = grind arith in
    let e2 : (4 * d * c) * q ≡ (4 * d) * (c * q) = grind arith in
    let e3 : (4 * d) * (p * 10 ^ 20) ≡ (4 * 10 ^ 20) * (d * p) = grind arith in
    let e4 : r * (180 * (2 ^ 36 * w) * q) ≡ (180 * 2 ^ 36) * (r * w * q) = grind arith in
    omega arith

radian-above : (c r w d p q : ℕ) → 4 * d * c ≤ r * (4291534423828125 * w) → p * 10 ^ 20 ≤ c * q → 2 ^ 60 * (d * p) ≤ r * (180 * (2 ^ 36 * w) * q)
radian-above c r w d p q h l =
    let m : (4 * d * c) * q ≤ (r * (4291534423828125 * w)) * q = mul-le-mul_right q h in
    let n : (4 * d) * (p * 10 ^ 20) ≤ (4 * d) * (c * q) = mul-le-mul_left (4 * d) l in
    let e1 : (r * (4291534423828125 * w)) * q ≡ 4291534423828125 * (r * w * q) = grind arith in
    let e2 : (4 * d * c) * q ≡ (4 * d) * (c * q) = grind arith in
    let e3 : (4 * d) * (p * 10 ^ 20) ≡ (4 * 10 ^ 20) * (d * p) = grind arith in
    let e4 : r * (180 * (2 ^ 36 * w) * q) ≡ (180 * 2 ^ 36) * (r * w * q) = grind arith in
    omega arith

pub bounds-square : (s d : ℕ) → IsScale s → BoundsSquare s d (square_low (radian_low s d)) (square_high (radian_high s d))
bounds-square s d h =
    let e = scale-split s h in
    let k = radian_unit-positive s in
    let w = 2 ^ (s - 36) in
    record {
      below = λ p q a b. square-below (square_low (radian_low s d)) (radian_low s d) (180 * 2 ^ s * q) (d * p)
          (quotient-below (radian_low s d * radian_low s d) (2 ^ 60) (lit≤ tt))
          (subst (λ n. radian_low s d * (180 * n * q) ≤ 2 ^ 60 * (d * p)) (sym e) (radian-below pi_digits (radian_low s d) w d p q (quotient-below (4 * d * pi_digits) (radian_unit s) k) a));
      above = λ p q a b. square-above (square_high (radian_high s d)) (radian_high s d) (180 * 2 ^ s * q) (d * p)
          (quotient_up-above (radian_high s d * radian_high s d) (2 ^ 60) (lit≤ tt))
          (subst (λ n. 2 ^ 60 * (d * p) ≤ radian_high s d * (180 * n * q)) (sym e) (radian-above (pi_digits + 1) (radian_high s d) w d p q (quotient_up-above (4 * d * (pi_digits + 1)) (radian_unit s) k) b));
    }

-- ---- the cut

unit-split : (s : ℕ) → IsScale s → 2 ^ 60 ≡ 2 ^ s * 2 ^ (60 - s)
unit-split s h =
    let e : s + (60 - s) ≡ 60 = omega (arith, IsScale-bounds h) in
    ap (λ n. 2 ^ n) (sym e) ∙ pow-add 2 s (60 - s)

cut-low : (a n : ℤ) (u t k : ℕ) → 0 < k → (a *ℤ pos u) ≤ℤ (n *ℤ pos (t * k)) → (floor_by a k *ℤ pos u) ≤ℤ (n *ℤ pos t)
cut-low a n u t k p h =
    let f = floor_by a k in
    let l = *ℤ-le_pos u (f *ℤ pos k) a (floor_by-below a k p) in
    let e : (n *ℤ pos t) *ℤ pos k ≡ n *ℤ pos (t * k) = *ℤ_assoc n (pos t) (pos k) ∙ ap (λ x. n *ℤ x) (pos-*ℤ-pos t k) in
    *ℤ-le_cancel k (f *ℤ pos u) (n *ℤ pos t) p (omega (arith, ints, l, h, e, *ℤ_turn f (pos u) (pos k)))

cut-high : (a n : ℤ) (u t k : ℕ) → 0 < k → (n *ℤ pos (t * k)) ≤ℤ (a *ℤ pos u) → (n *ℤ pos t) ≤ℤ (ceil_by a k *ℤ pos u)
cut-high a n u t k p h =
    let f = ceil_by a k in
    let l = *ℤ-le_pos u a (f *ℤ pos k) (ceil_by-above a k p) in
    let e : (n *ℤ pos t) *ℤ pos k ≡ n *ℤ pos (t * k) = *ℤ_assoc n (pos t) (pos k) ∙ ap (λ x. n *ℤ x) (pos-*ℤ-pos t k) in
    *ℤ-le_cancel k (n *ℤ pos t) (f *ℤ pos u) p (omega (arith, ints, l, h, e, *ℤ_turn f (pos u) (pos k)))

pub folded-cut : (s d : ℕ) → IsScale s → EnclosesCut s (square_low (radian_low s d)) (square_high (radian_high s d)) (folded_ends s d)
folded-cut s d h =
    let y = square_low (radian_low s d) in
    let v = square_high (radian_high s d) in
    let k = 2 ^ (60 - s) in
    let e = unit-split s h in
    let low = taylor-encloses v 11 in
    let high = taylor-encloses y 10 in
    record {
      from = cut-low (Ends.lo (taylor 11 v)) (sum_top v 11) (sum_under 11) (2 ^ s) k (pow_pos (60 - s))
          (subst (λ n. (Ends.lo (taylor 11 v) *ℤ pos (sum_under 11)) ≤ℤ (sum_top v 11 *ℤ pos n)) e low.low);
      to = cut-high (Ends.hi (taylor 10 y)) (sum_top y 10) (sum_under 10) (2 ^ s) k (pow_pos (60 - s))
          (subst (λ n. (sum_top y 10 *ℤ pos n) ≤ℤ (Ends.hi (taylor 10 y) *ℤ pos (sum_under 10))) e high.high);
    }

turn-back : (t : Bool) (e : Ends) → e ≡ turn t (turn t e)
turn-back true e = twice e.lo e.hi
  where
    twice : (a b : ℤ) → ends a b ≡ ends (neg_ℤ (neg_ℤ a)) (neg_ℤ (neg_ℤ b))
    twice a b = rw (neg_ℤ-neg_ℤ a, neg_ℤ-neg_ℤ b) refl
turn-back false e = refl

pub cosine-cut : (s : ℕ) (g : ℤ) → IsScale s → CosineCut s g (cosine_ends s g)
cosine-cut s g h =
    let d = folded s (unsigned_abs g) in
    record {
      square = bounds-square s d h;
      cut = subst (λ e. EnclosesCut s (square_low (radian_low s d)) (square_high (radian_high s d)) e) (turn-back (is_turned s (unsigned_abs g)) (folded_ends s d)) (folded-cut s d h);
    }
