-- Constraints of cubics, by SolveSpace's numbers: a cubic that touches a line, and two curves of which one at least is a cubic
-- that touch.
use Rattle.std.specs.Prelude.{◌==◌, ℕ, ℤ, true, false, List, [], ◌∷◌, Option, Some, None, if◌then◌else◌}
use Rattle.sk_types.specs.declared.constraint.Constraint.{Constraint}
use Rattle.sk_types.specs.declared.constraint_kind.TheConstants as kind
use Rattle.sk_expr.specs.Poly.{Poly}
use Rattle.sk_expr.specs.Formula.{Formula, formula, parallel, perpendicular}

-- the end of a curve in the constraint's workplane: an arc's spoke, its end less its centre, or a cubic's tangent
pub data CurveEnd : Type 0 where
  spoke : List (Poly ℤ) → CurveEnd
  tangent : List (Poly ℤ) → CurveEnd

-- a cubic's tangent and a line's vector, in space, and where the constraint has a workplane in it; or the ends of two curves
pub data Contact : Type 0 where
  with_line : List (Poly ℤ) → List (Poly ℤ) → Option (List (Poly ℤ) × List (Poly ℤ)) → Contact
  of_curves : CurveEnd → CurveEnd → Contact

-- two spokes, or two tangents, lie along one line; a spoke is at a right angle to a tangent
abbrev pub ends_touch : CurveEnd → CurveEnd → Formula
ends_touch (spoke r) (spoke q) = parallel true r q
ends_touch (spoke r) (tangent d) = perpendicular r d
ends_touch (tangent d) (spoke r) = perpendicular r d
ends_touch (tangent d) (tangent e) = parallel true d e

abbrev pub touch : Contact → Formula
touch (with_line d l None) = parallel false d l
touch (with_line d l (Some p)) = parallel true p.0 p.1
touch (of_curves a b) = ends_touch a b

abbrev pub cubic_kinds : List ℕ
cubic_kinds = kind.CUBIC_LINE_TANGENT ∷ kind.CURVE_CURVE_TANGENT ∷ []

-- nothing by any other number
unfoldable pub cubic_formula : (s : ℕ) → Constraint s → Contact → Formula
cubic_formula s c m =
    if c.kind == kind.CUBIC_LINE_TANGENT then touch m else
    if c.kind == kind.CURVE_CURVE_TANGENT then touch m else formula [] []
