-- Worked formulas: what the auxiliaries and rows of each kind are worth for parts with plain numbers.
use Rattle.std.specs.Prelude.{◌≡◌, ℕ, ◌-◌, ℤ, pos, neg_ℤ, List, [], ◌∷◌, map, false, refl}
use Rattle.sk_types.specs.declared.handle.EntityId.{EntityId}
use Rattle.sk_types.specs.declared.constraint.Constraint.{Constraint}
use Rattle.sk_types.specs.declared.constraint_kind.TheConstants as kind
use Rattle.sk_expr.specs.Poly.{Poly, number}
use Rattle.sk_expr.specs.ExactValue.{value_at}
use Rattle.sk_expr.specs.Vectors.{vector_difference, dot, minor, cross}
use Rattle.sk_expr.specs.Formula.{Auxiliary, length_of, quotient_of, Relation, row, without_greatest, lesser, perpendicular}
use Rattle.sk_face.specs.FaceRows.{Face, flat, side, face_normal, over_face, in_face, face_formula}

abbrev handle_of : ℕ → EntityId
handle_of n = record { 0 = n }

abbrev constraint_of : {s : ℕ} → ℕ → ℤ → Constraint s
constraint_of k value = record {
  id = record { 0 = 1 };
  kind = k;
  group = record { 0 = 2 };
  workplane = handle_of 9;
  value = value;
  points = handle_of 7 ∷ handle_of 0 ∷ [];
  entities = handle_of 3 ∷ handle_of 0 ∷ handle_of 0 ∷ handle_of 0 ∷ [];
  other = false;
  other2 = false;
  reference = false;
}

abbrev less : ℕ → ℤ
less n = neg_ℤ (pos n)

abbrev at : ℕ → ℕ → ℕ → List (Poly ℤ)
at x y z = number (pos x) ∷ number (pos y) ∷ number (pos z) ∷ []

abbrev by_normal : Face
by_normal = flat (at 1 1 1) (at 0 3 4)

-- from the second point to the first it is (-3, -4, -12)
abbrev along_line : Face
along_line = side (at 1 2 3) (at 4 6 15) (at 1 0 2)

-- with 1 for a unit; the unknown 12 is 3
abbrev value : Poly ℤ → ℤ
value t = value_at 0 0 (λ i. pos 0) (λ i. pos (i - 9)) t

abbrev auxiliary_values : Auxiliary → List ℤ
auxiliary_values (length_of a) = map value a
auxiliary_values (quotient_of n d) = value n ∷ value d ∷ []

abbrev relation_values : Relation → List ℤ
relation_values (row t) = value t ∷ []
relation_values (without_greatest a b) = map value b
relation_values (lesser t u) = value t ∷ value u ∷ []

-- the auxiliaries' vectors, then the relations, for the point (5, 7, 2)
abbrev values : Face → Constraint 0 → List (List ℤ) × List (List ℤ)
values f c = let g = face_formula 0 12 c (at 5 7 2) f in (map auxiliary_values g.auxiliaries, map relation_values g.relations)

pub over_face-rows :
    (values by_normal (constraint_of kind.POINT_FACE_DISTANCE (pos 5)) ≡ ((pos 0 ∷ pos 3 ∷ pos 4 ∷ []) ∷ [], (pos 7 ∷ []) ∷ []))
    × (values along_line (constraint_of kind.POINT_FACE_DISTANCE (pos 5)) ≡ ((less 8 ∷ less 6 ∷ pos 4 ∷ []) ∷ [], (less 81 ∷ []) ∷ []))
unfolding face_formula over_face face_normal vector_difference dot cross minor
over_face-rows = (refl, refl)

pub in_face-rows :
    (values by_normal (constraint_of kind.POINT_ON_FACE (pos 5)) ≡ ([], (pos 22 ∷ []) ∷ []))
    × (values along_line (constraint_of kind.POINT_ON_FACE (pos 5)) ≡ ([], (less 66 ∷ []) ∷ []))
unfolding face_formula in_face face_normal perpendicular vector_difference dot cross minor
in_face-rows = (refl, refl)

pub other-kinds : values along_line (constraint_of kind.ANGLE (pos 5)) ≡ ([], [])
unfolding face_formula
other-kinds = refl
