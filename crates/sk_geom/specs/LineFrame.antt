-- The quaternion of the frame by two line segments, in rounded numbers of units.
use Rattle.std.specs.Prelude.{◌==◌, ℕ, ◌+◌, ◌*◌, ◌^◌, ℤ, pos, neg_ℤ, ◌+ℤ◌, ◌-ℤ◌, ◌*ℤ◌, ◌&&◌, unsigned_abs, int_le, List, [], ◌∷◌, get_or, Option, Some, None, option_and_then, Result, Ok, Err, Bool, if◌then◌else◌}
use Rattle.sk_num.specs.Limit.{grid_of}
use Rattle.sk_num.specs.Rounding.{rounded_product, rounded_quotient}
use Rattle.sk_num.specs.Each.{each_some}
use Rattle.sk_expr.specs.Readings.{floor_root, square_units}
use Rattle.sk_geom.specs.declared.fault.FrameFault.{FrameFault}
use Rattle.sk_geom.specs.declared.fault.FrameFault.TheVariants.{Degenerate, PastLimit}

abbrev pub units_at : List ℤ → ℕ → ℤ
units_at zs i = get_or zs i (pos 0)

-- all of them, or none where one passes the limit
abbrev pub all_of : List (Option ℤ) → Option (List ℤ)
all_of os = each_some (λ o. o) os

abbrev pub within : Option (List ℤ) → Result (List ℤ) FrameFault
within None = Err PastLimit
within (Some x) = Ok x

abbrev pub then_frame : (List ℤ → Result (List ℤ) FrameFault) → Result (List ℤ) FrameFault → Result (List ℤ) FrameFault
then_frame f (Ok x) = f x
then_frame f (Err e) = Err e

-- ---- rounded vectors of three numbers

-- the length, rounded down
unfoldable pub rounded_length : List ℤ → ℕ
rounded_length a = floor_root ((square_units (units_at a 0) + square_units (units_at a 1)) + square_units (units_at a 2))

unfoldable pub divided : ℕ → List ℤ → ℤ → Option (List ℤ)
divided s a m = all_of (rounded_quotient s (units_at a 0) m ∷ rounded_quotient s (units_at a 1) m ∷ rounded_quotient s (units_at a 2) m ∷ [])

-- each component divided by the length; a length of 0 is degenerate
unfoldable pub unit_of : ℕ → List ℤ → Result (List ℤ) FrameFault
unit_of s a = if rounded_length a == 0 then Err Degenerate else within (option_and_then (divided s a) (grid_of (pos (rounded_length a))))

-- a b - c d
unfoldable pub rounded_minor : ℕ → ℤ → ℤ → ℤ → ℤ → Option ℤ
rounded_minor s a b c d = option_and_then (λ x. option_and_then (λ y. grid_of (x -ℤ y)) (rounded_product s c d)) (rounded_product s a b)

unfoldable pub rounded_cross : ℕ → List ℤ → List ℤ → Option (List ℤ)
rounded_cross s a b = all_of (
    rounded_minor s (units_at a 1) (units_at b 2) (units_at a 2) (units_at b 1)
    ∷ rounded_minor s (units_at a 2) (units_at b 0) (units_at a 0) (units_at b 2)
    ∷ rounded_minor s (units_at a 0) (units_at b 1) (units_at a 1) (units_at b 0)
    ∷ [])

-- the other way where it is negated
unfoldable pub turned : Bool → List ℤ → List ℤ
turned negate a = if negate then neg_ℤ (units_at a 0) ∷ neg_ℤ (units_at a 1) ∷ neg_ℤ (units_at a 2) ∷ [] else a

-- ---- the quaternion of three axes: x, y and z are the diagonal of their matrix

-- 1 + x + y + z
unfoldable pub first_sum : ℕ → ℤ → ℤ → ℤ → ℤ
first_sum s x y z = ((pos (2 ^ s) +ℤ x) +ℤ y) +ℤ z

-- 1 + x - y - z
unfoldable pub second_sum : ℕ → ℤ → ℤ → ℤ → ℤ
second_sum s x y z = ((pos (2 ^ s) +ℤ x) -ℤ y) -ℤ z

-- 1 - x + y - z
unfoldable pub third_sum : ℕ → ℤ → ℤ → ℤ → ℤ
third_sum s x y z = ((pos (2 ^ s) -ℤ x) +ℤ y) -ℤ z

-- 1 - x - y + z
unfoldable pub fourth_sum : ℕ → ℤ → ℤ → ℤ → ℤ
fourth_sum s x y z = ((pos (2 ^ s) -ℤ x) -ℤ y) +ℤ z

unfoldable pub last_greatest : ℤ → ℤ → ℕ
last_greatest c d = if int_le d c then 2 else 3

unfoldable pub later_greatest : ℤ → ℤ → ℤ → ℕ
later_greatest b c d = if int_le c b && int_le d b then 1 else last_greatest c d

-- the place of the greatest of four, from 0, the first of equal ones
unfoldable pub first_greatest : ℤ → ℤ → ℤ → ℤ → ℕ
first_greatest a b c d = if int_le b a && int_le c a && int_le d a then 0 else later_greatest b c d

-- that one of four
unfoldable pub picked : ℕ → ℤ → ℤ → ℤ → ℤ → ℤ
picked k a b c d = if k == 0 then a else if k == 1 then b else if k == 2 then c else d

-- the place of the greatest sum, and the sum in a place
unfoldable pub place_of_greatest : ℕ → ℤ → ℤ → ℤ → ℕ
place_of_greatest s x y z = first_greatest (first_sum s x y z) (second_sum s x y z) (third_sum s x y z) (fourth_sum s x y z)

unfoldable pub sum_at : ℕ → ℕ → ℤ → ℤ → ℤ → ℤ
sum_at s k x y z = picked k (first_sum s x y z) (second_sum s x y z) (third_sum s x y z) (fourth_sum s x y z)

-- the root of a number from 0 on, rounded down
abbrev pub root_at : ℕ → ℤ → Option ℤ
root_at s z = grid_of (pos (floor_root (unsigned_abs z * 2 ^ s)))

unfoldable pub over_root : ℕ → ℤ → ℤ → Option ℤ
over_root s d x = option_and_then (λ y. rounded_quotient s y d) (grid_of x)

unfoldable pub sum_over : ℕ → ℤ → ℤ → ℤ → Option ℤ
sum_over s d x y = over_root s d (x +ℤ y)

unfoldable pub difference_over : ℕ → ℤ → ℤ → ℤ → Option ℤ
difference_over s d x y = over_root s d (x -ℤ y)

-- w, x, y and z by the place k of the greatest sum
unfoldable pub arranged : ℕ → Option ℤ → Option ℤ → Option ℤ → Option ℤ → Option ℤ → Option ℤ → Option ℤ → Option (List ℤ)
arranged k half wx wy wz xy xz yz =
    if k == 0 then all_of (half ∷ wx ∷ wy ∷ wz ∷ []) else
    if k == 1 then all_of (wx ∷ half ∷ xy ∷ xz ∷ []) else
    if k == 2 then all_of (wy ∷ xy ∷ half ∷ yz ∷ []) else
    all_of (wz ∷ xz ∷ yz ∷ half ∷ [])

-- r is the root of the greatest sum, d is 2 r: r / 2 stands in its place, sums and differences over d in the others
unfoldable pub quaternion_parts : ℕ → ℕ → ℤ → ℤ → List ℤ → List ℤ → List ℤ → Option (List ℤ)
quaternion_parts s k r d u v n =
    arranged k (rounded_quotient s r (pos (2 * 2 ^ s)))
    (difference_over s d (units_at v 2) (units_at n 1)) (difference_over s d (units_at n 0) (units_at u 2)) (difference_over s d (units_at u 1) (units_at v 0))
    (sum_over s d (units_at u 1) (units_at v 0)) (sum_over s d (units_at n 0) (units_at u 2)) (sum_over s d (units_at v 2) (units_at n 1))

unfoldable pub quaternion_with : ℕ → ℕ → ℤ → List ℤ → List ℤ → List ℤ → Option (List ℤ)
quaternion_with s k sum u v n =
    option_and_then (λ r. option_and_then (λ d. quaternion_parts s k r d u v n) (grid_of (pos 2 *ℤ r))) (root_at s sum)

unfoldable pub quaternion_of : ℕ → List ℤ → List ℤ → List ℤ → Option (List ℤ)
quaternion_of s u v n =
    let x = units_at u 0 in
    let y = units_at v 1 in
    let z = units_at n 2 in
    let k = place_of_greatest s x y z in
    option_and_then (λ sum. quaternion_with s k sum u v n) (grid_of (sum_at s k x y z))

-- ---- the frame

-- u and v as they are in the end, and their cross product
unfoldable pub turned_frame : ℕ → List ℤ → List ℤ → Result (List ℤ) FrameFault
turned_frame s u v = then_frame (λ n. within (quaternion_of s u v n)) (within (rounded_cross s u v))

-- first u and v are exchanged, then each is negated
unfoldable pub swapped_frame : ℕ → Bool → Bool → Bool → List ℤ → List ℤ → Result (List ℤ) FrameFault
swapped_frame s swap negate_u negate_v u v =
    if swap then turned_frame s (turned negate_u v) (turned negate_v u) else turned_frame s (turned negate_u u) (turned negate_v v)

-- a is u over its length, n is a cross v over its length, b is n cross a: the axes are a and b
unfoldable pub line_frame : ℕ → List ℤ → List ℤ → Bool → Bool → Bool → Result (List ℤ) FrameFault
line_frame s u v swap negate_u negate_v =
    then_frame (λ a. then_frame (λ w. then_frame (λ n. then_frame (λ b. swapped_frame s swap negate_u negate_v a b)
    (within (rounded_cross s n a))) (unit_of s w)) (within (rounded_cross s a v))) (unit_of s u)
