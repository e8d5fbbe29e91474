-- Laws of the frame by two line segments: the greatest of four sums is 1 at least, so that its root divides, and when a frame
-- is degenerate.
use Rattle.std.proofs.Common.{◌≡◌, ℕ, ◌+◌, ◌*◌, ◌^◌, ◌≤◌, ◌<◌, ℤ, pos, ◌≤ℤ◌, ◌+ℤ◌, ◌⊎◌, inl, inr, ⊎_elim, Bool, true, false, List, arith, refl, Ok, Err, Option, Some, None}
use Rattle.std.specs.Prelude.{◌==◌, ◌&&◌, ◌↔◌, unsigned_abs, int_le, if◌then◌else◌, Result, IfSome}
use Rattle.std.proofs.Common.{lit≤}
use Rattle.std.proofs.Math.Nat.{pow-le-pow_right, mul-le-mul, mul-le-mul_right}
use Rattle.std.proofs.lemmas.Int.{ints}
use Rattle.std.proofs.lemmas.Bool.Decides.{nat_tests}
use Rattle.sk_num.specs.Scale.{IsScale, IsScale-bounds}
use Rattle.sk_num.specs.Limit.{grid_of, is_in_limit}
use Rattle.sk_expr.specs.Readings.{floor_root, root_by}
use Rattle.sk_expr.specs.RootLaws.{root_by-above}
use Rattle.sk_geom.specs.declared.fault.FrameFault.{FrameFault}
use Rattle.sk_geom.specs.declared.fault.FrameFault.TheVariants.{Degenerate}
use Rattle.sk_geom.specs.LineFrame.{first_sum, second_sum, third_sum, fourth_sum, last_greatest, later_greatest, first_greatest, picked, place_of_greatest, sum_at, root_at, rounded_length, unit_of, rounded_cross, within, then_frame, turned_frame, swapped_frame, line_frame, quaternion_of}

-- ---- the greatest sum

pub sums-add : (s : ℕ) (x y z : ℤ) → ((first_sum s x y z +ℤ second_sum s x y z) +ℤ third_sum s x y z) +ℤ fourth_sum s x y z ≡ pos (4 * 2 ^ s)
unfolding first_sum second_sum third_sum fourth_sum
sums-add s x y z = omega (arith, ints)

-- no number is above the one that is picked
last-picked : (a b c d : ℤ) → (c ≤ℤ picked (last_greatest c d) a b c d) × (d ≤ℤ picked (last_greatest c d) a b c d)
unfolding last_greatest picked
last-picked a b c d = grind (arith, ints, nat_tests)

later-by : (t : Bool) (a b c d : ℤ) → (int_le c b && int_le d b) ≡ t →
    let p = picked (if t then 1 else last_greatest c d) a b c d in (b ≤ℤ p) × (c ≤ℤ p) × (d ≤ℤ p)
unfolding picked
later-by true a b c d e = grind (arith, ints, nat_tests, e)
later-by false a b c d e =
    let h = last-picked a b c d in
    let p = picked (last_greatest c d) a b c d in
    let l : b ≤ℤ p = grind (arith, ints, nat_tests, e, h.0, h.1) in
    (l, h.0, h.1)

later-picked : (a b c d : ℤ) → let p = picked (later_greatest b c d) a b c d in (b ≤ℤ p) × (c ≤ℤ p) × (d ≤ℤ p)
unfolding later_greatest
later-picked a b c d = later-by (int_le c b && int_le d b) a b c d refl

first-by : (t : Bool) (a b c d : ℤ) → (int_le b a && int_le c a && int_le d a) ≡ t →
    let p = picked (if t then 0 else later_greatest b c d) a b c d in (a ≤ℤ p) × (b ≤ℤ p) × (c ≤ℤ p) × (d ≤ℤ p)
unfolding picked
first-by true a b c d e = grind (arith, ints, nat_tests, e)
first-by false a b c d e =
    let h = later-picked a b c d in
    let p = picked (later_greatest b c d) a b c d in
    let l : a ≤ℤ p = grind (arith, ints, nat_tests, e, h.0, h.1, h.2) in
    (l, h.0, h.1, h.2)

pub first-picked : (a b c d : ℤ) → let p = picked (first_greatest a b c d) a b c d in (a ≤ℤ p) × (b ≤ℤ p) × (c ≤ℤ p) × (d ≤ℤ p)
unfolding first_greatest
first-picked a b c d = first-by (int_le b a && int_le c a && int_le d a) a b c d refl

-- the greatest of four is at least a quarter of their sum
pub picked-quarter : (m : ℕ) (a b c d : ℤ) → ((a +ℤ b) +ℤ c) +ℤ d ≡ pos (4 * m) → pos m ≤ℤ picked (first_greatest a b c d) a b c d
picked-quarter m a b c d e =
    let h = first-picked a b c d in
    omega (arith, ints, e, h.0, h.1, h.2, h.3)

-- so the greatest of the four sums is 1 at least
pub greatest_sum-from_one : (s : ℕ) (x y z : ℤ) → pos (2 ^ s) ≤ℤ sum_at s (place_of_greatest s x y z) x y z
unfolding sum_at place_of_greatest
greatest_sum-from_one s x y z = picked-quarter (2 ^ s) _ _ _ _ (sums-add s x y z)

-- ---- the root

squares-rise : (m r : ℕ) → m * m < (r + 1) * (r + 1) → m ≤ r
squares-rise m r h = grind arith

pub floor_root-least : (n m : ℕ) → n < 2 ^ 128 → m * m ≤ n → m ≤ floor_root n
unfolding floor_root
floor_root-least n m h l =
    let k : n < 4 ^ 64 = omega (arith, h) in
    let b = root_by-above 64 n k in
    squares-rise m (root_by 64 n) (omega (arith, l, b))

in_units : (s n : ℕ) → s ≤ 44 → n ≤ 2 ^ 62 → n * 2 ^ s < 2 ^ 128
in_units s n h l =
    let p : 2 ^ s ≤ 2 ^ 44 = pow-le-pow_right (lit≤ tt) h in
    let q : n * 2 ^ s ≤ 2 ^ 62 * 2 ^ 44 = mul-le-mul l p in
    omega (arith, q)

if_in_limit : (t : Bool) (z : ℤ) (P : ℤ → Type 0) → P z → IfSome (if t then Some z else None) P
if_in_limit true z P h = h
if_in_limit false z P h = tt

pub grid_of-if : (z : ℤ) (P : ℤ → Type 0) → P z → IfSome (grid_of z) P
grid_of-if z P h = if_in_limit (is_in_limit z) z P h

-- and so is its root
pub root-from_one : (s : ℕ) (z : ℤ) → IsScale s → unsigned_abs z ≤ 2 ^ 62 → pos (2 ^ s) ≤ℤ z → IfSome (root_at s z) (λ r. pos (2 ^ s) ≤ℤ r)
root-from_one s z h f l =
    let n = unsigned_abs z in
    let m : 2 ^ s ≤ n = omega (arith, ints, l) in
    let q : 2 ^ s * 2 ^ s ≤ n * 2 ^ s = mul-le-mul_right (2 ^ s) m in
    let r = floor_root-least (n * 2 ^ s) (2 ^ s) (in_units s n (IsScale-bounds h).1 f) q in
    grid_of-if (pos (floor_root (n * 2 ^ s))) (λ r. pos (2 ^ s) ≤ℤ r) (omega (arith, ints, r))

-- ---- when a frame is degenerate

-- a number of it is 0: u has no length, or a cross v has none, where a is u over its length
abbrev pub HasNoLength : ℕ → List ℤ → List ℤ → Type 0
HasNoLength s u v =
    (rounded_length u ≡ 0) ⊎ ((a : List ℤ) × (w : List ℤ) × (unit_of s u ≡ Ok a) × (rounded_cross s a v ≡ Some w) × (rounded_length w ≡ 0))

within-sound : (o : Option (List ℤ)) → ¬ (within o ≡ Err Degenerate)
within-sound None e = grind (arith, e)
within-sound (Some x) e = grind (arith, e)

then-sound : (f : List ℤ → Result (List ℤ) FrameFault) → ((x : List ℤ) → ¬ (f x ≡ Err Degenerate)) → (o : Option (List ℤ)) → ¬ (then_frame f (within o) ≡ Err Degenerate)
then-sound f h None e = grind (arith, e)
then-sound f h (Some x) e = h x e

turned_frame-sound : (s : ℕ) (u v : List ℤ) → ¬ (turned_frame s u v ≡ Err Degenerate)
unfolding turned_frame
turned_frame-sound s u v = then-sound (λ n. within (quaternion_of s u v n)) (λ n. within-sound (quaternion_of s u v n)) (rounded_cross s u v)

swapped_frame-sound : (s : ℕ) (swap nu nv : Bool) (u v : List ℤ) → ¬ (swapped_frame s swap nu nv u v ≡ Err Degenerate)
unfolding swapped_frame
swapped_frame-sound s true nu nv u v = turned_frame-sound s _ _
swapped_frame-sound s false nu nv u v = turned_frame-sound s _ _

unit_by : (n : ℕ) (t : Bool) (o : Option (List ℤ)) → (n == 0) ≡ t → (if t then Err Degenerate else within o) ≡ Err Degenerate → n ≡ 0
unit_by n true o h e = grind (arith, nat_tests, h)
unit_by n false o h e = absurd (within-sound o e)

unit_of-degenerate : (s : ℕ) (a : List ℤ) → unit_of s a ≡ Err Degenerate → rounded_length a ≡ 0
unfolding unit_of
unit_of-degenerate s a e = unit_by (rounded_length a) (rounded_length a == 0) _ refl e

then-split : (f : List ℤ → Result (List ℤ) FrameFault) (r : Result (List ℤ) FrameFault) → then_frame f r ≡ Err Degenerate →
    (r ≡ Err Degenerate) ⊎ ((x : List ℤ) × (r ≡ Ok x) × (f x ≡ Err Degenerate))
then-split f (Ok x) e = inr (x, refl, e)
then-split f (Err d) e = inl e

module _ (s : ℕ) (v : List ℤ) (swap nu nv : Bool) (a : List ℤ) where
  -- the last steps, from n on, and those from a cross v on
  abbrev last_steps : List ℤ → Result (List ℤ) FrameFault
  last_steps n = then_frame (λ b. swapped_frame s swap nu nv a b) (within (rounded_cross s n a))

  abbrev across_steps : List ℤ → Result (List ℤ) FrameFault
  across_steps w = then_frame last_steps (unit_of s w)

  abbrev NoneAcross : Type 0
  NoneAcross = (w : List ℤ) × (rounded_cross s a v ≡ Some w) × (rounded_length w ≡ 0)

  last-sound : (n : List ℤ) → ¬ (last_steps n ≡ Err Degenerate)
  last-sound n = then-sound (λ b. swapped_frame s swap nu nv a b) (λ b. swapped_frame-sound s swap nu nv a b) (rounded_cross s n a)

  across-by : (o : Option (List ℤ)) → rounded_cross s a v ≡ o → then_frame across_steps (within o) ≡ Err Degenerate → NoneAcross
  across-by None h e = absurd (within-sound None e)
  across-by (Some w) h e =
      ⊎_elim (λ k. (w, h, unit_of-degenerate s w k)) (λ k. absurd (last-sound k.0 k.2)) (then-split last_steps (unit_of s w) e)

  across : then_frame across_steps (within (rounded_cross s a v)) ≡ Err Degenerate → NoneAcross
  across e = across-by (rounded_cross s a v) refl e

pub degenerate-no_length : (s : ℕ) (u v : List ℤ) (swap nu nv : Bool) → line_frame s u v swap nu nv ≡ Err Degenerate → HasNoLength s u v
unfolding line_frame
degenerate-no_length s u v swap nu nv e =
    ⊎_elim (λ h. inl (unit_of-degenerate s u h)) (λ h. let k = across s v swap nu nv h.0 h.2 in inr (h.0, k.0, h.1, k.1, k.2))
    (then-split (λ a. then_frame (across_steps s v swap nu nv a) (within (rounded_cross s a v))) (unit_of s u) e)

unit_of-no_length : (s : ℕ) (a : List ℤ) → rounded_length a ≡ 0 → unit_of s a ≡ Err Degenerate
unfolding unit_of
unit_of-no_length s a h = rw h refl

pub no_length-degenerate : (s : ℕ) (u v : List ℤ) (swap nu nv : Bool) → HasNoLength s u v → line_frame s u v swap nu nv ≡ Err Degenerate
unfolding line_frame
no_length-degenerate s u v swap nu nv (inl h) = rw (unit_of-no_length s u h) refl
no_length-degenerate s u v swap nu nv (inr h) = rw (h.2, h.3, unit_of-no_length s h.1 h.4) refl

-- exactly where a length is 0
pub degenerate-exactly : (s : ℕ) (u v : List ℤ) (swap nu nv : Bool) → (line_frame s u v swap nu nv ≡ Err Degenerate) ↔ HasNoLength s u v
degenerate-exactly s u v swap nu nv = (degenerate-no_length s u v swap nu nv, no_length-degenerate s u v swap nu nv)
