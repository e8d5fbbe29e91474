-- How near the two Taylor sums are: the ends of one to the other ends of the other.
use Rattle.std.proofs.Common.{◌≡◌, ℕ, ◌+◌, ◌-◌, ◌*◌, ◌^◌, ◌<◌, ◌≤◌, arith, lit≤, ℤ, pos, ◌+ℤ◌, ◌-ℤ◌, ◌*ℤ◌, ◌≤ℤ◌}
use Rattle.std.specs.Prelude.{unsigned_abs, ◌<ℤ◌}
use Rattle.std.proofs.lemmas.Int.{ints, unsigned_abs-mul}
use Rattle.std.proofs.Math.Nat.{mul-le-mul}
use Rattle.std.proofs.Math.IntN.{pos-*ℤ-pos}
use Rattle.sk_num.specs.Whole.{*ℤ--ℤ_left, *ℤ-+ℤ_right, *ℤ--ℤ_right, *ℤ-le_cancel, *ℤ-lt_cancel}
use Rattle.sk_num.specs.Division.{floor_by, ceil_by, floor_by-below, floor_by-above, ceil_by-above, ceil_by-below}
use Rattle.std.proofs.Math.Nat.{pow-le-pow_right}
use Rattle.sk_num.specs.Scale.{IsScale, IsScale-bounds}
use Rattle.sk_num.specs.Ends.{Ends}
use Rattle.sk_cosine.specs.Rule.{folded_ends, radian_low, radian_high, square_low, square_high, part_down, part_up, bracket, taylor, whole_one}
use Rattle.sk_cosine.proofs.Bounds.{floor_by-small, ceil_by-small, radian_low-small, radian_high-small, square_low-fits, square_high-fits, squares-near}

pub gap-divided : (a b : ℤ) (k m n : ℕ) → 0 < k → unsigned_abs (a -ℤ b) ≤ m → m ≤ n * k → unsigned_abs (floor_by a k -ℤ ceil_by b k) ≤ n + 2
gap-divided a b k m n p h l =
    let f = floor_by a k in
    let c = ceil_by b k in
    let fb = floor_by-below a k p in
    let fa = floor_by-above a k p in
    let ca = ceil_by-above b k p in
    let cb = ceil_by-below b k p in
    let e = *ℤ--ℤ_right f c (pos k) in
    let e2 = *ℤ--ℤ_right c f (pos k) in
    let q : pos (n + 2) *ℤ pos k ≡ pos ((n + 2) * k) = pos-*ℤ-pos (n + 2) k in
    let r : (n + 2) * k ≡ n * k + 2 * k = grind arith in
    let up_ : (f -ℤ c) ≤ℤ pos (n + 2) = *ℤ-le_cancel k (f -ℤ c) (pos (n + 2)) p (omega (arith, ints, fb, ca, e, q, r, h, l)) in
    let down_ : (c -ℤ f) ≤ℤ pos (n + 2) = *ℤ-le_cancel k (c -ℤ f) (pos (n + 2)) p (omega (arith, ints, fa, cb, e2, q, r, h, l)) in
    omega (arith, ints, up_, down_)

-- z y and w v, for z near w and y near v
product-gap : (z w : ℤ) (y v m : ℕ) → y ≤ 5 * 2 ^ 59 → unsigned_abs w ≤ 2 ^ 61 → unsigned_abs (pos y -ℤ pos v) ≤ 9 → unsigned_abs (z -ℤ w) ≤ m → unsigned_abs (z *ℤ pos y -ℤ w *ℤ pos v) ≤ m * (5 * 2 ^ 59) + 2 ^ 61 * 9
product-gap z w y v m yl wl d h =
    let a : unsigned_abs ((z -ℤ w) *ℤ pos y) ≤ m * (5 * 2 ^ 59) = rw (unsigned_abs-mul (z -ℤ w) (pos y)) (mul-le-mul h yl) in
    let b : unsigned_abs (w *ℤ (pos y -ℤ pos v)) ≤ 2 ^ 61 * 9 = rw (unsigned_abs-mul w (pos y -ℤ pos v)) (mul-le-mul wl d) in
    omega (arith, ints, a, b, *ℤ--ℤ_right z w (pos y), *ℤ--ℤ_left w (pos y) (pos v))

part-gap : (z w : ℤ) (y v k m n1 n2 : ℕ) → 0 < k → 5 * m + 36 ≤ 2 * n1 → n1 + 2 ≤ n2 * k → y ≤ 5 * 2 ^ 59 → unsigned_abs w ≤ 2 ^ 61 → unsigned_abs (pos y -ℤ pos v) ≤ 9 → unsigned_abs (z -ℤ w) ≤ m →
    unsigned_abs (part_down y k z -ℤ part_up v k w) ≤ n2 + 2
part-gap z w y v k m n1 n2 p h1 h2 yl wl d h =
    let g = product-gap z w y v m yl wl d h in
    let one = gap-divided (z *ℤ pos y) (w *ℤ pos v) (2 ^ 60) (m * (5 * 2 ^ 59) + 2 ^ 61 * 9) n1 (lit≤ tt) g (omega arith) in
    gap-divided (floor_by (z *ℤ pos y) (2 ^ 60)) (ceil_by (w *ℤ pos v) (2 ^ 60)) k (n1 + 2) n2 p one h2

flip : (a b : ℤ) (m : ℕ) → unsigned_abs (a -ℤ b) ≤ m → unsigned_abs (b -ℤ a) ≤ m
flip a b m h = omega (arith, ints, h)

-- a is near b, end to other end, and of no great size, as b is
pub record Near (m : ℕ) (a b : Ends) : Type 0 where
  pub low_high : unsigned_abs (a.lo -ℤ b.hi) ≤ m
  pub high_low : unsigned_abs (a.hi -ℤ b.lo) ≤ m

pub record Small (a : Ends) : Type 0 where
  pub lo_small : unsigned_abs a.lo ≤ 2 ^ 61
  pub hi_small : unsigned_abs a.hi ≤ 2 ^ 61

pub record Both (m : ℕ) (a b : Ends) : Type 0 where
  pub near : Near m a b
  pub left : Small a
  pub right : Small b

near-more : (y v k m n1 n2 : ℕ) (a b : Ends) → 0 < k → 5 * m + 36 ≤ 2 * n1 → n1 + 2 ≤ n2 * k → y ≤ 5 * 2 ^ 59 → v ≤ 5 * 2 ^ 59 → unsigned_abs (pos y -ℤ pos v) ≤ 9 → Both m a b → Near (n2 + 2) (bracket v k a) (bracket y k b)
near-more y v k m n1 n2 a b p h1 h2 yl vl d s =
    let one = part-gap b.lo a.hi y v k m n1 n2 p h1 h2 yl s.left.hi_small d (flip a.hi b.lo m s.near.high_low) in
    let two = part-gap a.lo b.hi v y k m n1 n2 p h1 h2 vl s.right.hi_small (flip (pos y) (pos v) 9 d) s.near.low_high in
    record { low_high = omega (arith, ints, one); high_low = omega (arith, ints, two) }

part-size-down : (y k : ℕ) (z : ℤ) → 12 ≤ k → y ≤ 5 * 2 ^ 59 → unsigned_abs z ≤ 2 ^ 61 → unsigned_abs (part_down y k z) ≤ 2 ^ 60
part-size-down y k z p yl h =
    let m : unsigned_abs (z *ℤ pos y) ≤ 2 ^ 61 * (5 * 2 ^ 59) = rw (unsigned_abs-mul z (pos y)) (mul-le-mul h yl) in
    let u = floor_by-small (z *ℤ pos y) (2 ^ 60) (2 ^ 60) (5 * 2 ^ 60) (lit≤ tt) (lit≤ tt) (omega (arith, m)) in
    let r = floor_by-small (floor_by (z *ℤ pos y) (2 ^ 60)) k 12 (2 ^ 59) (lit≤ tt) p (omega (arith, u)) in
    omega (arith, r)

part-size-up : (y k : ℕ) (z : ℤ) → 12 ≤ k → y ≤ 5 * 2 ^ 59 → unsigned_abs z ≤ 2 ^ 61 → unsigned_abs (part_up y k z) ≤ 2 ^ 60
part-size-up y k z p yl h =
    let m : unsigned_abs (z *ℤ pos y) ≤ 2 ^ 61 * (5 * 2 ^ 59) = rw (unsigned_abs-mul z (pos y)) (mul-le-mul h yl) in
    let u = ceil_by-small (z *ℤ pos y) (2 ^ 60) (2 ^ 60) (5 * 2 ^ 60) (lit≤ tt) (lit≤ tt) (omega (arith, m)) in
    let r = ceil_by-small (ceil_by (z *ℤ pos y) (2 ^ 60)) k 12 (2 ^ 59) (lit≤ tt) p (omega (arith, u)) in
    omega (arith, r)

small-more : (y k : ℕ) (a : Ends) → 12 ≤ k → y ≤ 5 * 2 ^ 59 → Small a → Small (bracket y k a)
small-more y k a p yl s =
    let one = part-size-up y k a.hi p yl s.hi_small in
    let two = part-size-down y k a.lo p yl s.lo_small in
    record { lo_small = omega (arith, ints, one); hi_small = omega (arith, ints, two) }

more : (y v k m n1 n2 : ℕ) (a b : Ends) → 12 ≤ k → 5 * m + 36 ≤ 2 * n1 → n1 + 2 ≤ n2 * k → y ≤ 5 * 2 ^ 59 → v ≤ 5 * 2 ^ 59 → unsigned_abs (pos y -ℤ pos v) ≤ 9 → Both m a b → Both (n2 + 2) (bracket v k a) (bracket y k b)
more y v k m n1 n2 a b p h1 h2 yl vl d s = record {
  near = near-more y v k m n1 n2 a b (omega (arith, p)) h1 h2 yl vl d s;
  left = small-more v k a p vl s.left;
  right = small-more y k b p yl s.right;
}

one-small : Small whole_one
one-small = record { lo_small = lit≤ tt; hi_small = lit≤ tt }

start : (v : ℕ) → v ≤ 5 * 2 ^ 59 → Both 6238752730556534 (bracket v 462 whole_one) whole_one
start v vl =
    let o : 2 ^ 60 ≤ 2 ^ 60 = lit≤ tt in
    let m : unsigned_abs (pos (2 ^ 60) *ℤ pos v) ≤ 2 ^ 60 * (5 * 2 ^ 59) = rw (unsigned_abs-mul (pos (2 ^ 60)) (pos v)) (mul-le-mul o vl) in
    let u = ceil_by-small (pos (2 ^ 60) *ℤ pos v) (2 ^ 60) (2 ^ 60) (5 * 2 ^ 59) (lit≤ tt) (lit≤ tt) (omega (arith, m)) in
    let r = ceil_by-small (ceil_by (pos (2 ^ 60) *ℤ pos v) (2 ^ 60)) 462 462 6238752730556533 (lit≤ tt) (lit≤ tt) (omega (arith, u)) in
    let u2 = floor_by-small (pos (2 ^ 60) *ℤ pos v) (2 ^ 60) (2 ^ 60) (5 * 2 ^ 59) (lit≤ tt) (lit≤ tt) (omega (arith, m)) in
    let r2 = floor_by-small (floor_by (pos (2 ^ 60) *ℤ pos v) (2 ^ 60)) 462 462 6238752730556533 (lit≤ tt) (lit≤ tt) (omega (arith, u2)) in
    record {
      near = record { low_high = omega (arith, ints, r); high_low = omega (arith, ints, r2) };
      left = small-more v 462 whole_one (lit≤ tt) vl one-small;
      right = one-small;
    }

pub taylor-near : (y v : ℕ) → y ≤ 5 * 2 ^ 59 → v ≤ 5 * 2 ^ 59 → unsigned_abs (pos y -ℤ pos v) ≤ 9 → Near 42 (taylor 11 v) (taylor 10 y)
taylor-near y v yl vl d =
    let s11 = start v vl in
    let s10 = more y v 380 6238752730556534 15596881826391353 41044425858925 (bracket v 462 whole_one) whole_one (lit≤ tt) (lit≤ tt) (lit≤ tt) yl vl d s11 in
    let s9 = more y v 306 41044425858927 102611064647336 335330276626 (bracket v 380 (bracket v 462 whole_one)) (bracket y 380 whole_one) (lit≤ tt) (lit≤ tt) (lit≤ tt) yl vl d s10 in
    let s8 = more y v 240 335330276628 838325691588 3493023715 (bracket v 306 (bracket v 380 (bracket v 462 whole_one))) (bracket y 306 (bracket y 380 whole_one)) (lit≤ tt) (lit≤ tt) (lit≤ tt) yl vl d s9 in
    let s7 = more y v 182 3493023717 8732559311 47981096 (bracket v 240 (bracket v 306 (bracket v 380 (bracket v 462 whole_one)))) (bracket y 240 (bracket y 306 (bracket y 380 whole_one))) (lit≤ tt) (lit≤ tt) (lit≤ tt) yl vl d s8 in
    let s6 = more y v 132 47981098 119952763 908734 (bracket v 182 (bracket v 240 (bracket v 306 (bracket v 380 (bracket v 462 whole_one))))) (bracket y 182 (bracket y 240 (bracket y 306 (bracket y 380 whole_one)))) (lit≤ tt) (lit≤ tt) (lit≤ tt) yl vl d s7 in
    let s5 = more y v 90 908736 2271858 25243 (bracket v 132 (bracket v 182 (bracket v 240 (bracket v 306 (bracket v 380 (bracket v 462 whole_one)))))) (bracket y 132 (bracket y 182 (bracket y 240 (bracket y 306 (bracket y 380 whole_one))))) (lit≤ tt) (lit≤ tt) (lit≤ tt) yl vl d s6 in
    let s4 = more y v 56 25245 63131 1128 (bracket v 90 (bracket v 132 (bracket v 182 (bracket v 240 (bracket v 306 (bracket v 380 (bracket v 462 whole_one))))))) (bracket y 90 (bracket y 132 (bracket y 182 (bracket y 240 (bracket y 306 (bracket y 380 whole_one)))))) (lit≤ tt) (lit≤ tt) (lit≤ tt) yl vl d s5 in
    let s3 = more y v 30 1130 2843 95 (bracket v 56 (bracket v 90 (bracket v 132 (bracket v 182 (bracket v 240 (bracket v 306 (bracket v 380 (bracket v 462 whole_one)))))))) (bracket y 56 (bracket y 90 (bracket y 132 (bracket y 182 (bracket y 240 (bracket y 306 (bracket y 380 whole_one))))))) (lit≤ tt) (lit≤ tt) (lit≤ tt) yl vl d s4 in
    let s2 = more y v 12 97 261 22 (bracket v 30 (bracket v 56 (bracket v 90 (bracket v 132 (bracket v 182 (bracket v 240 (bracket v 306 (bracket v 380 (bracket v 462 whole_one))))))))) (bracket y 30 (bracket y 56 (bracket y 90 (bracket y 132 (bracket y 182 (bracket y 240 (bracket y 306 (bracket y 380 whole_one)))))))) (lit≤ tt) (lit≤ tt) (lit≤ tt) yl vl d s3 in
    near-more y v 2 24 78 40 (bracket v 12 (bracket v 30 (bracket v 56 (bracket v 90 (bracket v 132 (bracket v 182 (bracket v 240 (bracket v 306 (bracket v 380 (bracket v 462 whole_one)))))))))) (bracket y 12 (bracket y 30 (bracket y 56 (bracket y 90 (bracket y 132 (bracket y 182 (bracket y 240 (bracket y 306 (bracket y 380 whole_one))))))))) (lit≤ tt) (lit≤ tt) (lit≤ tt) yl vl d s2

shift-large : (s : ℕ) → IsScale s → 2 ^ 16 ≤ 2 ^ (60 - s)
shift-large s h = let b : 16 ≤ 60 - s = shift s (IsScale-bounds h).1 in pow-le-pow_right (lit≤ tt) b
  where
    shift : (s : ℕ) → s ≤ 44 → 16 ≤ 60 - s
    shift s h = omega arith

-- the ends over a greater unit, for ends within 42 of each other
rounded-ordered : (a b : ℤ) (k : ℕ) → 2 ^ 16 ≤ k → unsigned_abs (a -ℤ b) ≤ 42 → floor_by a k ≤ℤ ceil_by b k
rounded-ordered a b k p h =
    let q : 0 < k = omega (arith, p) in
    let e = *ℤ-+ℤ_right (ceil_by b k) (pos 1) (pos k) in
    let f : pos 1 *ℤ pos k ≡ pos (1 * k) = pos-*ℤ-pos 1 k in
    let l : floor_by a k <ℤ (ceil_by b k +ℤ pos 1) = *ℤ-lt_cancel k (floor_by a k) (ceil_by b k +ℤ pos 1) (rw e (omega (arith, ints, f, floor_by-below a k q, ceil_by-above b k q, h, p))) in
    omega (arith, ints, l)

rounded-near : (a b : ℤ) (k : ℕ) → 2 ^ 16 ≤ k → unsigned_abs (a -ℤ b) ≤ 42 → unsigned_abs (floor_by a k -ℤ ceil_by b k) ≤ 3
rounded-near a b k p h = gap-divided a b k 42 1 (omega (arith, p)) h (omega (arith, p))

pub record Narrow (e : Ends) : Type 0 where
  pub ordered : e.lo ≤ℤ e.hi
  pub narrow : e.hi ≤ℤ (e.lo +ℤ pos 8)

pub folded-narrow : (s d : ℕ) → IsScale s → d ≤ 90 * 2 ^ s → Narrow (folded_ends s d)
folded-narrow s d h l =
    let y = square_low (radian_low s d) in
    let v = square_high (radian_high s d) in
    let a = Ends.lo (taylor 11 v) in
    let b = Ends.hi (taylor 10 y) in
    let k = 2 ^ (60 - s) in
    let n = taylor-near y v (square_low-fits (radian_low s d) (radian_low-small s d h l)) (square_high-fits (radian_high s d) (radian_high-small s d h l)) (squares-near s d h l) in
    let w = rounded-near a b k (shift-large s h) n.low_high in
    let o = rounded-ordered a b k (shift-large s h) n.low_high in
    narrowed (floor_by a k) (ceil_by b k) o w
  where
    narrowed : (lo hi : ℤ) → lo ≤ℤ hi → unsigned_abs (lo -ℤ hi) ≤ 3 → Narrow (record { lo = lo; hi = hi })
    narrowed lo hi o w = record { ordered = o; narrow = omega (arith, ints, o, w) }
