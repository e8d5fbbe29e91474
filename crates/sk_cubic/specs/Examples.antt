-- Worked rows of cubics that touch something, for parts with plain numbers, and worked points.
use Rattle.std.specs.Prelude.{◌≡◌, ℕ, ℤ, pos, neg_ℤ, List, [], ◌∷◌, ◌++◌, map, true, false, Some, None, refl}
use Rattle.sk_types.specs.declared.handle.EntityId.{EntityId}
use Rattle.sk_types.specs.declared.constraint.Constraint.{Constraint}
use Rattle.sk_types.specs.declared.constraint_kind.TheConstants as kind
use Rattle.sk_expr.specs.Poly.{Poly, number}
use Rattle.sk_expr.specs.ExactValue.{value_at}
use Rattle.sk_expr.specs.Vectors.{dot, minor, cross}
use Rattle.sk_expr.specs.Formula.{Relation, row, without_greatest, lesser, parallel, perpendicular}
use Rattle.sk_cubic.specs.CubicRows.{spoke, tangent, Contact, with_line, of_curves, cubic_formula}
use Rattle.sk_cubic.specs.CurvePoint.{curve_number, curve_point}

abbrev handle_of : ℕ → EntityId
handle_of n = record { 0 = n }

abbrev constraint_of : {s : ℕ} → ℕ → Constraint s
constraint_of k = record {
  id = record { 0 = 1 };
  kind = k;
  group = record { 0 = 2 };
  workplane = handle_of 9;
  value = pos 0;
  points = handle_of 0 ∷ handle_of 0 ∷ [];
  entities = handle_of 3 ∷ handle_of 4 ∷ handle_of 0 ∷ handle_of 0 ∷ [];
  other = true;
  other2 = false;
  reference = false;
}

abbrev less : ℕ → ℤ
less n = neg_ℤ (pos n)

abbrev at : ℕ → ℕ → ℕ → List (Poly ℤ)
at x y z = number (pos x) ∷ number (pos y) ∷ number (pos z) ∷ []

abbrev in_plane_at : ℕ → ℕ → List (Poly ℤ)
in_plane_at u v = number (pos u) ∷ number (pos v) ∷ []

-- with 1 for a unit
abbrev value : Poly ℤ → ℤ
value t = value_at 0 0 (λ i. pos 0) (λ i. pos 0) t

abbrev relation_values : Relation → List ℤ
relation_values (row t) = value t ∷ []
relation_values (without_greatest a b) = map value a ++ map value b
relation_values (lesser t u) = value t ∷ value u ∷ []

abbrev values : ℕ → Contact → List (List ℤ)
values k m = let f = cubic_formula 0 (constraint_of k) m in map relation_values f.relations

-- in the workplane, and in space
pub line-rows :
    (values kind.CUBIC_LINE_TANGENT (with_line (at 1 4 2) (at 3 0 5) (Some (in_plane_at 3 1, in_plane_at 2 5))) ≡ (pos 13 ∷ []) ∷ [])
    × (values kind.CUBIC_LINE_TANGENT (with_line (at 1 4 2) (at 3 0 5) None) ≡ (pos 1 ∷ pos 4 ∷ pos 2 ∷ pos 20 ∷ pos 1 ∷ less 12 ∷ []) ∷ [])
unfolding cubic_formula parallel cross minor
line-rows = (refl, refl)

-- two tangents, two spokes, and a spoke and a tangent
pub curve-rows :
    (values kind.CURVE_CURVE_TANGENT (of_curves (tangent (in_plane_at 3 1)) (tangent (in_plane_at 2 5))) ≡ (pos 13 ∷ []) ∷ [])
    × (values kind.CURVE_CURVE_TANGENT (of_curves (spoke (in_plane_at 3 1)) (spoke (in_plane_at 2 5))) ≡ (pos 13 ∷ []) ∷ [])
    × (values kind.CURVE_CURVE_TANGENT (of_curves (spoke (in_plane_at 3 1)) (tangent (in_plane_at 2 5))) ≡ (pos 11 ∷ []) ∷ [])
    × (values kind.CURVE_CURVE_TANGENT (of_curves (tangent (in_plane_at 3 1)) (spoke (in_plane_at 2 5))) ≡ (pos 11 ∷ []) ∷ [])
unfolding cubic_formula parallel perpendicular dot minor
curve-rows = (refl, refl, refl, refl)

pub other-kinds : values kind.ANGLE (of_curves (tangent (in_plane_at 3 1)) (tangent (in_plane_at 2 5))) ≡ []
unfolding cubic_formula
other-kinds = refl

abbrev control : List (List ℤ)
control =
    (pos 0 ∷ pos 0 ∷ pos 4 ∷ []) ∷ (pos 0 ∷ pos 4096 ∷ pos 0 ∷ []) ∷
    (pos 4096 ∷ pos 4096 ∷ pos 0 ∷ []) ∷ (pos 4096 ∷ less 5 ∷ less 8 ∷ []) ∷ []

-- both ends, and halves away from zero
pub point-rows :
    (curve_point control 0 ≡ pos 0 ∷ pos 0 ∷ pos 4 ∷ [])
    × (curve_point control 1 ≡ pos 46 ∷ pos 720 ∷ pos 3 ∷ [])
    × (curve_point control 8 ≡ pos 2048 ∷ pos 3071 ∷ less 1 ∷ [])
    × (curve_point control 16 ≡ pos 4096 ∷ less 5 ∷ less 8 ∷ [])
unfolding curve_number
point-rows = (refl, refl, refl, refl)
