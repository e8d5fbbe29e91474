-- Faces, and the constraints of a point and a face, by SolveSpace's numbers; all in space whatever the workplane. Where a kind
-- has an auxiliary, i is its unknown.
use Rattle.std.specs.Prelude.{◌==◌, ℕ, ℤ, List, [], ◌∷◌, if◌then◌else◌}
use Rattle.sk_types.specs.declared.constraint.Constraint.{Constraint}
use Rattle.sk_types.specs.declared.constraint_kind.TheConstants as kind
use Rattle.sk_expr.specs.Poly.{Poly, number, unknown, minus, times}
use Rattle.sk_expr.specs.Vectors.{vector_difference, dot, cross}
use Rattle.sk_expr.specs.Formula.{length_of, Formula, formula, row, perpendicular}

-- through a point with a normal vector, or through two points and along a vector
pub data Face : Type 0 where
  flat : List (Poly ℤ) → List (Poly ℤ) → Face
  side : List (Poly ℤ) → List (Poly ℤ) → List (Poly ℤ) → Face

abbrev pub face_point : Face → List (Poly ℤ)
face_point (flat on n) = on
face_point (side on to t) = on

-- the normal vector: on a side the cross product of the difference of both points and the vector
unfoldable pub face_normal : Face → List (Poly ℤ)
face_normal (flat on n) = n
face_normal (side on to t) = cross (vector_difference on to) t

-- p lies v over a face
unfoldable pub over_face : ℕ → ℤ → List (Poly ℤ) → Face → Formula
over_face i v p f =
    let n = face_normal f in
    formula (length_of n ∷ []) (row (minus (dot (vector_difference p (face_point f)) n) (times (number v) (unknown i))) ∷ [])

-- p lies in a face
unfoldable pub in_face : List (Poly ℤ) → Face → Formula
in_face p f = perpendicular (vector_difference p (face_point f)) (face_normal f)

abbrev pub face_kinds : List ℕ
face_kinds = kind.POINT_FACE_DISTANCE ∷ kind.POINT_ON_FACE ∷ []

-- i unknowns stand before; nothing by any other number
unfoldable pub face_formula : (s : ℕ) → ℕ → Constraint s → List (Poly ℤ) → Face → Formula
face_formula s i c p f =
    if c.kind == kind.POINT_FACE_DISTANCE then over_face i c.value p f else
    if c.kind == kind.POINT_ON_FACE then in_face p f else formula [] []
