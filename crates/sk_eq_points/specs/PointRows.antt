-- Constraints of points, by SolveSpace's numbers: each is rows alone, polynomials that are to be 0.
-- Points p and q, lines and workplanes are taken in the constraint's workplane W where that is said (flat), else in space.
use Rattle.std.specs.Prelude.{◌==◌, ℕ, ℤ, Bool, true, false, List, [], ◌∷◌, if◌then◌else◌}
use Rattle.sk_types.specs.declared.constraint.Constraint.{Constraint}
use Rattle.sk_types.specs.declared.constraint_kind.TheConstants as kind
use Rattle.sk_types.specs.Needs.{named}
use Rattle.sk_types.specs.Sizes.{has_entity}
use Rattle.sk_expr.specs.Poly.{Poly, number, plus, minus, times}
use Rattle.sk_expr.specs.Vectors.{component, vector_difference, dot, squared, cross, flat_cross, about}
use Rattle.sk_expr.specs.Parts.{PartsOf, line_at, frame_at, point_at, end_at, line_vector}
use Rattle.sk_expr.specs.Formula.{Formula, rows_only}

-- p - q
unfoldable pub points_difference : Bool → PartsOf → List (Poly ℤ)
points_difference flat m = vector_difference (point_at flat m 0) (point_at flat m 1)

-- p and q are v apart
unfoldable pub points_apart : Bool → ℤ → PartsOf → List (Poly ℤ)
points_apart flat v m = minus (squared (points_difference flat m)) (times (number v) (number v)) ∷ []

-- (p - o) . N of the first workplane, in space
unfoldable pub height_over : PartsOf → Poly ℤ
height_over m = dot (vector_difference (point_at false m 0) (frame_at m 0).origin) (frame_at m 0).n

-- p lies v over a workplane, or in it
unfoldable pub over_plane : ℤ → PartsOf → List (Poly ℤ)
over_plane v m = minus (height_over m) (number v) ∷ []

unfoldable pub in_plane : PartsOf → List (Poly ℤ)
in_plane m = height_over m ∷ []

-- p and q are symmetric about a workplane: their middle lies in it, and they differ along no other direction than N; those
-- are U and V, or within a workplane W the one that lies in both planes
abbrev pub across : Bool → PartsOf → List (Poly ℤ)
across flat m =
    let d = points_difference false m in
    let f = frame_at m 0 in
    if flat then dot (cross f.n (frame_at m 1).n) d ∷ [] else dot d f.u ∷ dot d f.v ∷ []

unfoldable pub symmetric_over_plane : ℕ → Bool → PartsOf → List (Poly ℤ)
symmetric_over_plane s flat m =
    let f = frame_at m 0 in
    dot (about s (point_at false m 0) (point_at false m 1) f.origin) f.n ∷ across flat m

-- p and q are symmetric about an axis of W: their coordinates i are equal, their coordinates j are opposite
unfoldable pub mirrored : ℕ → ℕ → PartsOf → List (Poly ℤ)
mirrored i j m =
    let p = point_at true m 0 in
    let q = point_at true m 1 in
    minus (component p i) (component q i) ∷ plus (component p j) (component q j) ∷ []

-- p and q are symmetric about a line in W
unfoldable pub symmetric_over_line : ℕ → PartsOf → List (Poly ℤ)
symmetric_over_line s m =
    let a = line_vector true (line_at m 0) in
    dot a (points_difference true m) ∷ flat_cross a (about s (point_at true m 0) (point_at true m 1) (end_at true (line_at m 0) 0)) ∷ []

-- p is the middle of a line, or else a workplane goes through the middle
unfoldable pub middle : ℕ → Bool → Bool → PartsOf → List (Poly ℤ)
middle s has_point flat m =
    let l = line_at m 0 in
    if has_point then about s (end_at flat l 0) (end_at flat l 1) (point_at flat m 0) else
    dot (about s (end_at false l 0) (end_at false l 1) (frame_at m 0).origin) (frame_at m 0).n ∷ []

-- an end of a line, or else p or q, in W
unfoldable pub level_end : Bool → PartsOf → ℕ → List (Poly ℤ)
level_end has_line m i = if has_line then end_at true (line_at m 0) i else point_at true m i

-- both have the same coordinate j
unfoldable pub level : Bool → ℕ → PartsOf → List (Poly ℤ)
level has_line j m = minus (component (level_end has_line m 0) j) (component (level_end has_line m 1) j) ∷ []

abbrev pub point_kinds : List ℕ
point_kinds =
    kind.POINTS_COINCIDENT ∷ kind.POINT_POINT_DISTANCE ∷ kind.POINT_PLANE_DISTANCE ∷ kind.POINT_IN_PLANE ∷
    kind.SYMMETRIC ∷ kind.SYMMETRIC_HORIZONTAL ∷ kind.SYMMETRIC_VERTICAL ∷ kind.SYMMETRIC_LINE ∷
    kind.AT_MIDPOINT ∷ kind.HORIZONTAL ∷ kind.VERTICAL ∷ []

-- by the constraint's number; no rows by any other
unfoldable pub point_rows : (s : ℕ) → Constraint s → PartsOf → List (Poly ℤ)
point_rows s c m =
    let flat = has_entity c.workplane in
    let has_line = has_entity (named c.entities 0) in
    if c.kind == kind.POINTS_COINCIDENT then points_difference flat m else
    if c.kind == kind.POINT_POINT_DISTANCE then points_apart flat c.value m else
    if c.kind == kind.POINT_PLANE_DISTANCE then over_plane c.value m else
    if c.kind == kind.POINT_IN_PLANE then in_plane m else
    if c.kind == kind.SYMMETRIC then symmetric_over_plane s flat m else
    if c.kind == kind.SYMMETRIC_HORIZONTAL then mirrored 1 0 m else
    if c.kind == kind.SYMMETRIC_VERTICAL then mirrored 0 1 m else
    if c.kind == kind.SYMMETRIC_LINE then symmetric_over_line s m else
    if c.kind == kind.AT_MIDPOINT then middle s (has_entity (named c.points 0)) flat m else
    if c.kind == kind.HORIZONTAL then level has_line 1 m else
    if c.kind == kind.VERTICAL then level has_line 0 m else []

abbrev pub point_formula : (s : ℕ) → Constraint s → PartsOf → Formula
point_formula s c m = rows_only (point_rows s c m)
