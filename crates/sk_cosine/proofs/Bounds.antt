-- How large the radian and its square are, and how near their ends.
use Rattle.std.proofs.Common.{◌≡◌, ℕ, ◌+◌, ◌-◌, ◌*◌, ◌/◌, ◌^◌, ◌<◌, ◌≤◌, arith, lit≤, sym, ap, ◌∙◌, ℤ, pos, negsuc, neg_ℤ}
use Rattle.std.specs.Prelude.{unsigned_abs}
use Rattle.std.proofs.lemmas.Int.{ints}
use Rattle.std.specs.Prelude.{◌<ℤ◌, ◌-ℤ◌}
use Rattle.std.proofs.Math.IntN.{pos-*ℤ-pos}
use Rattle.sk_num.specs.Whole.{*ℤ-lt_cancel}
use Rattle.sk_num.specs.Division.{floor_by, ceil_by}
use Rattle.std.proofs.lemmas.Nat.{pow_pos, pow-add}
use Rattle.std.proofs.Math.Nat.{mul-le-mul_left, le_of_mul-le-mul_right, mul-le-mul}
use Rattle.sk_num.specs.Scale.{IsScale, IsScale-bounds}
use Rattle.sk_cosine.specs.Rule.{quotient_up, pi_digits, radian_unit, radian_low, radian_high, square_low, square_high}

pub quotient-below : (a k : ℕ) → 0 < k → (a / k) * k ≤ a
quotient-below a k h = omega arith

pub quotient-above : (a k : ℕ) → 0 < k → a < (a / k) * k + k
quotient-above a k h = omega arith

pub quotient_up-below : (a k : ℕ) → 0 < k → quotient_up a k * k < a + k
quotient_up-below a k h = omega arith

pub quotient_up-above : (a k : ℕ) → 0 < k → a ≤ quotient_up a k * k
quotient_up-above a k h = omega arith

-- r k < a + k for k = u w and a = 4 d c, at an angle of at most 90 degrees, 90 2^36 w
radian-small : (c d r w : ℕ) → 0 < w → d ≤ 90 * (2 ^ 36 * w) → c ≤ 314159265358979323847 → r * (4291534423828125 * w) < 4 * d * c + 4291534423828125 * w → r ≤ 1811004864519280711
radian-small c d r w p h l b =
    let dc : (4 * d) * c ≤ (360 * (2 ^ 36 * w)) * 314159265358979323847 = mul-le-mul (omega arith) l in
    let e : r * (4291534423828125 * w) ≡ (r * 4291534423828125) * w = grind arith in
    let t : (r * 4291534423828125) * w ≤ (360 * 2 ^ 36 * 314159265358979323847 + 4291534423828125) * w = omega arith in
    let u : r * 4291534423828125 ≤ 360 * 2 ^ 36 * 314159265358979323847 + 4291534423828125 = le_of_mul-le-mul_right t p in
    omega arith

pub scale-split : (s : ℕ) → IsScale s → 2 ^ s ≡ 2 ^ 36 * 2 ^ (s - 36)
scale-split s h =
    let e : 36 + (s - 36) ≡ s = omega (arith, IsScale-bounds h) in
    ap (λ n. 2 ^ n) (sym e) ∙ pow-add 2 36 (s - 36)

pub radian_unit-positive : (s : ℕ) → 0 < radian_unit s
radian_unit-positive s = omega (arith, pow_pos (s - 36))

pub radian_low-small : (s d : ℕ) → IsScale s → d ≤ 90 * 2 ^ s → radian_low s d ≤ 1811004864519280711
radian_low-small s d h l =
    let w = pow_pos (s - 36) in
    radian-small pi_digits d (radian_low s d) (2 ^ (s - 36)) w (rw (scale-split s h) at l) (lit≤ tt)
    (let q = quotient-below (4 * d * pi_digits) (radian_unit s) (radian_unit-positive s) in omega (arith, q, w))

pub radian_high-small : (s d : ℕ) → IsScale s → d ≤ 90 * 2 ^ s → radian_high s d ≤ 1811004864519280711
radian_high-small s d h l =
    radian-small (pi_digits + 1) d (radian_high s d) (2 ^ (s - 36)) (pow_pos (s - 36)) (rw (scale-split s h) at l) (lit≤ tt)
    (quotient_up-below (4 * d * (pi_digits + 1)) (radian_unit s) (radian_unit-positive s))

pub square-small : (r : ℕ) → r ≤ 1811004864519280711 → r * r ≤ 2844719788994575542 * 2 ^ 60
square-small r h =
    let q : r * r ≤ 1811004864519280711 * 1811004864519280711 = mul-le-mul h h in omega (arith, q)

pub square_low-fits : (r : ℕ) → r ≤ 1811004864519280711 → square_low r ≤ 5 * 2 ^ 59
square_low-fits r h = omega (arith, square-small r h)

pub square_high-fits : (r : ℕ) → r ≤ 1811004864519280711 → square_high r ≤ 5 * 2 ^ 59
square_high-fits r h = omega (arith, square-small r h)

quotient-small : (a k c n : ℕ) → 0 < c → c ≤ k → a ≤ n * c → a / k ≤ n
quotient-small a k c n p h l =
    let q : (a / k) * k ≤ a = quotient-below a k (omega arith) in
    let m : (a / k) * c ≤ (a / k) * k = mul-le-mul_left (a / k) h in
    let t : (a / k) * c ≤ n * c = omega arith in
    le_of_mul-le-mul_right t p

pub floor_by-small : (u : ℤ) (k c n : ℕ) → 0 < c → c ≤ k → unsigned_abs u ≤ n * c → unsigned_abs (floor_by u k) ≤ n + 1
floor_by-small (pos a) k c n p h l = let q = quotient-small a k c n p h l in omega (arith, ints, q)
floor_by-small (negsuc a) k c n p h l = let q = quotient-small a k c n p h (omega arith) in omega (arith, ints, q)

pub ceil_by-small : (u : ℤ) (k c n : ℕ) → 0 < c → c ≤ k → unsigned_abs u ≤ n * c → unsigned_abs (ceil_by u k) ≤ n + 1
ceil_by-small u k c n p h l = let q = floor_by-small (neg_ℤ u) k c n p h (omega (arith, ints, l)) in omega (arith, ints, q)

lt-cancel : (a b k : ℕ) → a * k < b * k → a < b
lt-cancel a b k h = let l : pos a <ℤ pos b = *ℤ-lt_cancel k (pos a) (pos b) (omega (arith, ints, pos-*ℤ-pos a k, pos-*ℤ-pos b k, h)) in omega (arith, ints, l)

-- k is at least 4 d
ends-near : (a d k r t : ℕ) → 0 < k → 4 * d ≤ k → r * k ≤ a → a < r * k + k → a + 4 * d ≤ t * k → t * k < a + 4 * d + k → (r ≤ t) × (t ≤ r + 2)
ends-near a d k r t p q h1 h2 h3 h4 =
    let e : (r + 3) * k ≡ r * k + 3 * k = grind arith in
    let l : r * k ≤ t * k = omega arith in
    let low : r ≤ t = le_of_mul-le-mul_right l p in
    let high : t < r + 3 = lt-cancel t (r + 3) k (omega arith) in
    (low, omega (arith, high))

unit-large : (d w : ℕ) → d ≤ 90 * (2 ^ 36 * w) → 4 * d ≤ 4291534423828125 * w
unit-large d w h = omega arith

pub radians-near : (s d : ℕ) → IsScale s → d ≤ 90 * 2 ^ s → (radian_low s d ≤ radian_high s d) × (radian_high s d ≤ radian_low s d + 2)
radians-near s d h l =
    let p = radian_unit-positive s in
    let a = 4 * d * pi_digits in
    let k = radian_unit s in
    let e : 4 * d * (pi_digits + 1) ≡ 4 * d * pi_digits + 4 * d = omega arith in
    ends-near a d k (radian_low s d) (radian_high s d) p (unit-large d (2 ^ (s - 36)) (rw (scale-split s h) at l))
    (quotient-below a k p) (quotient-above a k p)
    (let q = quotient_up-above (4 * d * (pi_digits + 1)) k p in omega (arith, q, e))
    (let q = quotient_up-below (4 * d * (pi_digits + 1)) k p in omega (arith, q, e))

squares-gap : (r t : ℕ) → r ≤ t → t ≤ r + 2 → r ≤ 1811004864519280711 → unsigned_abs (pos (square_low r) -ℤ pos (square_high t)) ≤ 9
squares-gap r t h l b =
    let m : t * t ≤ (r + 2) * (r + 2) = mul-le-mul l l in
    let m2 : r * r ≤ t * t = mul-le-mul h h in
    let e : (r + 2) * (r + 2) ≡ r * r + 4 * r + 4 = grind arith in
    let q1 = quotient-below (r * r) (2 ^ 60) (lit≤ tt) in
    let q2 = quotient-above (r * r) (2 ^ 60) (lit≤ tt) in
    let q3 = quotient_up-above (t * t) (2 ^ 60) (lit≤ tt) in
    let q4 = quotient_up-below (t * t) (2 ^ 60) (lit≤ tt) in
    gap (square_low r) (square_high t) (r * r) (t * t) r q1 q2 q3 q4 m2 (omega (arith, m, e)) b
  where
    gap : (y v a c r : ℕ) → y * 2 ^ 60 ≤ a → a < y * 2 ^ 60 + 2 ^ 60 → c ≤ v * 2 ^ 60 → v * 2 ^ 60 < c + 2 ^ 60 → a ≤ c → c ≤ a + 4 * r + 4 → r ≤ 1811004864519280711 → unsigned_abs (pos y -ℤ pos v) ≤ 9
    gap y v a c r h1 h2 h3 h4 h5 h6 h7 = omega (arith, ints)

pub squares-near : (s d : ℕ) → IsScale s → d ≤ 90 * 2 ^ s → unsigned_abs (pos (square_low (radian_low s d)) -ℤ pos (square_high (radian_high s d))) ≤ 9
squares-near s d h l =
    let n = radians-near s d h l in
    squares-gap (radian_low s d) (radian_high s d) n.0 n.1 (radian_low-small s d h l)
