-- Constraints of lines and normals, by SolveSpace's numbers. Where a kind has auxiliaries, i is the first one's unknown.
-- Points, lines and vectors are taken in the constraint's workplane W where that is said (flat), else in space.
use Rattle.std.specs.Prelude.{◌==◌, ◌+◌, ◌-◌, ℕ, ℤ, Bool, true, false, List, [], ◌∷◌, ◌++◌, take, count_by, get_or, if◌then◌else◌}
use Rattle.sk_types.specs.declared.constraint.Constraint.{Constraint}
use Rattle.sk_types.specs.declared.constraint_kind.TheConstants as kind
use Rattle.sk_types.specs.Sizes.{has_entity}
use Rattle.sk_num.specs.Ends.{Ends}
use Rattle.sk_cosine.specs.Rule.{cosine_ends}
use Rattle.sk_expr.specs.Poly.{Poly, number, cosine, unknown, minus, times}
use Rattle.sk_expr.specs.Vectors.{vector_difference, scaled, negated, dot, squared, cross, side}
use Rattle.sk_expr.specs.Parts.{PartsOf, LinePoints, NormalAxes, line_at, frame_at, axes_at, point_at, end_at, line_vector}
use Rattle.sk_expr.specs.Formula.{Auxiliary, length_of, quotient_of, row, without_greatest, lesser, Formula, formula, rows_only, parallel, perpendicular}

-- ---- the vectors of lines and normals

-- that of a normal is its N; in W it has the components N . U and N . V
unfoldable pub normal_vector : Bool → PartsOf → NormalAxes → List (Poly ℤ)
normal_vector flat m a = if flat then dot a.n (frame_at m 0).u ∷ dot a.n (frame_at m 0).v ∷ [] else a.n

-- how many of the entities before the place i are normals, and whether the one there is
unfoldable pub normals_before : ℕ → PartsOf → ℕ
normals_before i m = count_by (λ n. n) (take i m.normals)

unfoldable pub is_normal_at : ℕ → PartsOf → Bool
is_normal_at i m = get_or m.normals i false

-- the vector of entity A, B, C or D, a line or a normal; lines and normals stand in lists of their own
unfoldable pub direction_at : Bool → PartsOf → ℕ → List (Poly ℤ)
direction_at flat m i =
    let n = normals_before i m in
    if is_normal_at i m then normal_vector flat m (axes_at m n) else line_vector flat (line_at m (i - n))

-- the first vector; the other way round where the other angle is meant
unfoldable pub first_direction : Bool → Bool → PartsOf → List (Poly ℤ)
first_direction other flat m = if other then negated (direction_at flat m 0) else direction_at flat m 0

-- ---- auxiliaries

-- the foot of p on the line through A with the vector d, in space: t = (p - A) . d / d . d, and from the foot to p it is
-- p - A - t d
unfoldable pub foot : List (Poly ℤ) → LinePoints → Auxiliary
foot p l = quotient_of (dot (vector_difference p (end_at false l 0)) (line_vector false l)) (squared (line_vector false l))

unfoldable pub from_foot : Poly ℤ → List (Poly ℤ) → LinePoints → List (Poly ℤ)
from_foot t p l = vector_difference (vector_difference p (end_at false l 0)) (scaled t (line_vector false l))

-- on which side of a line in W p lies, and how far from it, times the line's length: d.v e.u - d.u e.v with e = A - p
unfoldable pub side_of : List (Poly ℤ) → LinePoints → Poly ℤ
side_of p l = side (line_vector true l) (vector_difference (end_at true l 0) p)

-- the length of the line, and how far p lies from it
unfoldable pub height : ℕ → List (Poly ℤ) → LinePoints → List Auxiliary
height i p l = length_of (line_vector true l) ∷ quotient_of (side_of p l) (unknown i) ∷ []

abbrev pub unknown_squared : ℕ → Poly ℤ
unknown_squared i = times (unknown i) (unknown i)

-- the lengths of a and b, and the cosine of their angle, a . b over both
unfoldable pub cosine_of : ℕ → List (Poly ℤ) → List (Poly ℤ) → List Auxiliary
cosine_of i a b = length_of a ∷ length_of b ∷ quotient_of (dot a b) (times (unknown i) (unknown (i + 1))) ∷ []

-- ---- distances from lines

-- p lies v from a line
unfoldable pub from_line : ℕ → Bool → ℤ → PartsOf → Formula
from_line i flat v m =
    let p = point_at flat m 0 in
    let l = line_at m 0 in
    if flat then formula (length_of (line_vector true l) ∷ []) (row (minus (side_of p l) (times (number v) (unknown i))) ∷ []) else
    formula (foot p l ∷ []) (row (minus (squared (from_foot (unknown i) p l)) (times (number v) (number v))) ∷ [])

-- from p to q it is v along a line or a normal; in space whatever the workplane
unfoldable pub apart_along : ℕ → ℤ → PartsOf → Formula
apart_along i v m =
    let a = direction_at false m 0 in
    formula (length_of a ∷ []) (row (minus (dot (vector_difference (point_at false m 1) (point_at false m 0)) a) (times (number v) (unknown i))) ∷ [])

-- p lies on a line: in space it is its foot, in two components, without the one along which the line is longest
unfoldable pub on_line : ℕ → Bool → PartsOf → Formula
on_line i flat m =
    let p = point_at flat m 0 in
    let l = line_at m 0 in
    if flat then rows_only (side_of p l ∷ []) else
    formula (foot p l ∷ []) (without_greatest (line_vector false l) (from_foot (unknown i) p l) ∷ [])

-- ---- lengths

-- two lines are of equal length
unfoldable pub equal_lengths : Bool → PartsOf → Formula
equal_lengths flat m = rows_only (minus (squared (line_vector flat (line_at m 0))) (squared (line_vector flat (line_at m 1))) ∷ [])

-- the first line is v times as long as the second
unfoldable pub length_ratio : Bool → ℤ → PartsOf → Formula
length_ratio flat v m =
    rows_only (minus (squared (line_vector flat (line_at m 0))) (times (times (number v) (number v)) (squared (line_vector flat (line_at m 1)))) ∷ [])

-- the first line is as long as p is far from the second
unfoldable pub length_as_height : ℕ → Bool → PartsOf → Formula
length_as_height i flat m =
    let a = squared (line_vector flat (line_at m 0)) in
    let p = point_at flat m 0 in
    let l = line_at m 1 in
    if flat then formula (height i p l) (row (minus a (unknown_squared (i + 1))) ∷ []) else
    formula (foot p l ∷ []) (row (minus a (squared (from_foot (unknown i) p l))) ∷ [])

-- p is as far from the first line as q from the second
unfoldable pub equal_heights : ℕ → Bool → PartsOf → Formula
equal_heights i flat m =
    let p = point_at flat m 0 in
    let q = point_at flat m 1 in
    let k = line_at m 0 in
    let l = line_at m 1 in
    if flat then formula (height i p k ++ height (i + 2) q l) (row (minus (unknown_squared (i + 1)) (unknown_squared (i + 3))) ∷ []) else
    formula (foot p k ∷ foot q l ∷ []) (row (minus (squared (from_foot (unknown i) p k)) (squared (from_foot (unknown (i + 1)) q l))) ∷ [])

-- the first line is v longer than the second
unfoldable pub longer_by : ℕ → Bool → ℤ → PartsOf → Formula
longer_by i flat v m =
    formula (length_of (line_vector flat (line_at m 0)) ∷ length_of (line_vector flat (line_at m 1)) ∷ [])
    (row (minus (minus (unknown i) (unknown (i + 1))) (number v)) ∷ [])

-- ---- angles

-- the angle of a and b has the cosine of that of c and d
unfoldable pub equal_angles : ℕ → Bool → Bool → PartsOf → Formula
equal_angles i other flat m =
    formula (cosine_of i (first_direction other flat m) (direction_at flat m 1) ++ cosine_of (i + 3) (direction_at flat m 2) (direction_at flat m 3))
    (row (minus (unknown (i + 2)) (unknown (i + 5))) ∷ [])

-- two normals have the same orientation: N and N are parallel, and U meets V, or U, at a right angle, whichever is nearer
unfoldable pub same_orientation : PartsOf → Formula
same_orientation m =
    let a = axes_at m 0 in
    let b = axes_at m 1 in
    formula [] (without_greatest a.n (cross a.n b.n) ∷ lesser (dot a.u b.v) (dot a.u b.u) ∷ [])

-- a and b meet in an angle; e is the span of its cosine, and k the cosine's place
unfoldable pub in_angle : ℕ → ℕ → Bool → Bool → Ends → PartsOf → Formula
in_angle i k other flat e m =
    let a = first_direction other flat m in
    let b = direction_at flat m 1 in
    record {
      auxiliaries = length_of a ∷ length_of b ∷ [];
      cosines = e ∷ [];
      relations = row (minus (dot a b) (times (times (cosine k) (unknown i)) (unknown (i + 1)))) ∷ [];
    }

-- ---- by the constraint's number

abbrev pub line_kinds : List ℕ
line_kinds =
    kind.POINT_LINE_DISTANCE ∷ kind.PROJECTED_DISTANCE ∷ kind.POINT_ON_LINE ∷ kind.EQUAL_LENGTHS ∷ kind.LENGTH_RATIO ∷
    kind.EQUAL_LENGTH_AND_DISTANCE ∷ kind.EQUAL_DISTANCES ∷ kind.EQUAL_ANGLES ∷ kind.LENGTH_DIFFERENCE ∷
    kind.SAME_ORIENTATION ∷ kind.ANGLE ∷ kind.PARALLEL ∷ kind.PERPENDICULAR ∷ []

-- i unknowns and k cosines stand before; nothing by any other number
unfoldable pub line_formula : (s : ℕ) → ℕ → ℕ → Constraint s → PartsOf → Formula
line_formula s i k c m =
    let flat = has_entity c.workplane in
    if c.kind == kind.POINT_LINE_DISTANCE then from_line i flat c.value m else
    if c.kind == kind.PROJECTED_DISTANCE then apart_along i c.value m else
    if c.kind == kind.POINT_ON_LINE then on_line i flat m else
    if c.kind == kind.EQUAL_LENGTHS then equal_lengths flat m else
    if c.kind == kind.LENGTH_RATIO then length_ratio flat c.value m else
    if c.kind == kind.EQUAL_LENGTH_AND_DISTANCE then length_as_height i flat m else
    if c.kind == kind.EQUAL_DISTANCES then equal_heights i flat m else
    if c.kind == kind.EQUAL_ANGLES then equal_angles i c.other flat m else
    if c.kind == kind.LENGTH_DIFFERENCE then longer_by i flat c.value m else
    if c.kind == kind.SAME_ORIENTATION then same_orientation m else
    if c.kind == kind.ANGLE then in_angle i k c.other flat (cosine_ends s c.value) m else
    if c.kind == kind.PARALLEL then parallel flat (direction_at flat m 0) (direction_at flat m 1) else
    if c.kind == kind.PERPENDICULAR then perpendicular (direction_at flat m 0) (direction_at flat m 1) else formula [] []
