-- Constraints of circles and arcs, by SolveSpace's numbers. Where a kind has auxiliaries, i is the first one's unknown.
use Rattle.std.specs.Prelude.{◌==◌, ◌+◌, ℕ, ℤ, Bool, true, false, List, [], ◌∷◌, ◌++◌, length, unwrap_or, Option, Some, None, if◌then◌else◌}
use Rattle.sk_types.specs.declared.constraint.Constraint.{Constraint}
use Rattle.sk_types.specs.declared.constraint_kind.TheConstants as kind
use Rattle.sk_expr.specs.Poly.{Poly, number, unknown, minus, times}
use Rattle.sk_expr.specs.Vectors.{whole, vector_difference, dot, squared, flat_cross}
use Rattle.sk_expr.specs.Parts.{PartsOf, RoundParts, no_vector, vector_at, line_at, round_at, point_at, line_vector}
use Rattle.sk_expr.specs.Formula.{Auxiliary, length_of, Formula, formula, row, rows_only, perpendicular}

-- ---- radii

-- from the centre to an arc's start, or to its end: in space, and in the curve's plane
unfoldable pub spoke : RoundParts → Bool → List (Poly ℤ)
spoke r at_end = vector_difference (vector_at r.ends (if at_end then 1 else 0)) r.centre

unfoldable pub flat_spoke : RoundParts → Bool → List (Poly ℤ)
flat_spoke r at_end = vector_difference (vector_at r.flat_ends (if at_end then 1 else 0)) (unwrap_or r.flat_centre no_vector)

-- to the start, in the plane where the arc has one
unfoldable pub start_spoke : RoundParts → Option (List (Poly ℤ)) → List (Poly ℤ)
start_spoke r None = spoke r false
start_spoke r (Some centre) = flat_spoke r false

-- a circle's radius is its distance, an arc's is the length of its start less its centre
unfoldable pub radius_auxiliaries : RoundParts → Option (Poly ℤ) → List Auxiliary
radius_auxiliaries r (Some t) = []
radius_auxiliaries r None = length_of (start_spoke r r.flat_centre) ∷ []

unfoldable pub radius_of : ℕ → Option (Poly ℤ) → Poly ℤ
radius_of i (Some t) = t
radius_of i None = unknown i

-- ---- the kinds

-- twice the radius is v
unfoldable pub diameter : ℕ → ℕ → ℤ → PartsOf → Formula
diameter s i v m =
    let r = round_at m 0 in
    formula (radius_auxiliaries r r.distance) (row (minus (times (whole s 2) (radius_of i r.distance)) (number v)) ∷ [])

-- from the centre to p, in the plane of the curve's normal: in its workplane, or else along its axes
unfoldable pub from_centre : PartsOf → RoundParts → Option (List (Poly ℤ)) → List (Poly ℤ)
from_centre m r None =
    let d = vector_difference (point_at false m 0) r.centre in
    dot d (vector_at r.axes 0) ∷ dot d (vector_at r.axes 1) ∷ []
from_centre m r (Some centre) = vector_difference (point_at true m 0) centre

-- p lies on a circle or an arc
unfoldable pub on_circle : ℕ → PartsOf → Formula
on_circle i m =
    let r = round_at m 0 in
    let t = radius_of i r.distance in
    formula (radius_auxiliaries r r.distance) (row (minus (squared (from_centre m r r.flat_centre)) (times t t)) ∷ [])

-- an arc touches a line: at its start or, where the other end is meant, at its end, the line is at a right angle to the spoke
unfoldable pub arc_touches_line : Bool → PartsOf → Formula
arc_touches_line other m = perpendicular (spoke (round_at m 0) other) (line_vector false (line_at m 0))

-- two arcs touch, each at its start or at its end: the spokes lie along one line
unfoldable pub arcs_touch : Bool → Bool → PartsOf → Formula
arcs_touch other other2 m = rows_only (flat_cross (flat_spoke (round_at m 0) other) (flat_spoke (round_at m 1) other2) ∷ [])

-- two radii are equal
unfoldable pub equal_radii : ℕ → PartsOf → Formula
equal_radii i m =
    let a = round_at m 0 in
    let b = round_at m 1 in
    let xs = radius_auxiliaries a a.distance in
    formula (xs ++ radius_auxiliaries b b.distance) (row (minus (radius_of i a.distance) (radius_of (i + length xs) b.distance)) ∷ [])

-- ---- by the constraint's number

abbrev pub curve_kinds : List ℕ
curve_kinds = kind.DIAMETER ∷ kind.POINT_ON_CIRCLE ∷ kind.ARC_LINE_TANGENT ∷ kind.CURVE_CURVE_TANGENT ∷ kind.EQUAL_RADII ∷ []

-- i unknowns stand before; nothing by any other number
unfoldable pub curve_formula : (s : ℕ) → ℕ → Constraint s → PartsOf → Formula
curve_formula s i c m =
    if c.kind == kind.DIAMETER then diameter s i c.value m else
    if c.kind == kind.POINT_ON_CIRCLE then on_circle i m else
    if c.kind == kind.ARC_LINE_TANGENT then arc_touches_line c.other m else
    if c.kind == kind.CURVE_CURVE_TANGENT then arcs_touch c.other c.other2 m else
    if c.kind == kind.EQUAL_RADII then equal_radii i m else formula [] []
