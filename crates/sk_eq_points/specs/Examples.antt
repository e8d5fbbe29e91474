-- Worked rows: what the rows of each kind are worth for parts with plain numbers.
use Rattle.std.specs.Prelude.{◌≡◌, ℕ, ℤ, pos, neg_ℤ, List, [], ◌∷◌, map, Bool, false, refl}
use Rattle.sk_types.specs.declared.handle.EntityId.{EntityId}
use Rattle.sk_types.specs.declared.constraint.Constraint.{Constraint}
use Rattle.sk_types.specs.declared.constraint_kind.TheConstants as kind
use Rattle.sk_expr.specs.Poly.{Poly, number}
use Rattle.sk_expr.specs.ExactValue.{value_at}
use Rattle.sk_expr.specs.Vectors.{vector_sum, vector_difference, scaled, dot, squared, minor, cross}
use Rattle.sk_expr.specs.Parts.{PartsOf, LinePoints, PlaneFrame, line_at, frame_at, point_at, end_at, line_vector}
use Rattle.sk_eq_points.specs.PointRows.{points_difference, points_apart, height_over, over_plane, in_plane, symmetric_over_plane, mirrored, symmetric_over_line, middle, level_end, level, point_rows}

abbrev handle_of : ℕ → EntityId
handle_of n = record { 0 = n }

-- a constraint in the workplane w, or by 0 in space, on the points p and 8 and on the entities a and 6
abbrev constraint_of : {s : ℕ} → ℕ → ℕ → ℤ → ℕ → ℕ → Constraint s
constraint_of k w value p a = record {
  id = record { 0 = 1 };
  kind = k;
  group = record { 0 = 2 };
  workplane = handle_of w;
  value = value;
  points = handle_of p ∷ handle_of 8 ∷ [];
  entities = handle_of a ∷ handle_of 6 ∷ handle_of 0 ∷ handle_of 0 ∷ [];
  other = false;
  other2 = false;
  reference = false;
}

abbrev at : ℕ → ℕ → ℕ → List (Poly ℤ)
at x y z = number (pos x) ∷ number (pos y) ∷ number (pos z) ∷ []

abbrev in_plane_at : ℕ → ℕ → List (Poly ℤ)
in_plane_at u v = number (pos u) ∷ number (pos v) ∷ []

abbrev slanted : PlaneFrame
slanted = record { origin = at 1 1 1; u = at 1 0 0; v = number (pos 0) ∷ number (pos 4) ∷ number (neg_ℤ (pos 3)) ∷ []; n = at 0 3 4 }

abbrev of_constraint : PlaneFrame
of_constraint = record { origin = at 0 0 0; u = at 1 0 0; v = at 0 1 0; n = at 1 2 3 }

abbrev parts : PartsOf
parts = record {
  points = at 1 2 3 ∷ at 4 6 15 ∷ [];
  flat_points = in_plane_at 1 2 ∷ in_plane_at 4 6 ∷ [];
  lines = record { ends = at 1 0 2 ∷ at 3 8 5 ∷ []; flat = in_plane_at 10 20 ∷ in_plane_at 7 5 ∷ [] } ∷ [];
  frames = slanted ∷ of_constraint ∷ [];
  axes = [];
  rounds = [];
  normals = false ∷ false ∷ false ∷ false ∷ [];
}

-- the values of the rows, with 1 for a unit
abbrev values : Constraint 0 → List ℤ
values c = map (value_at 0 0 (λ i. pos 0) (λ i. pos 0)) (point_rows 0 c parts)

abbrev less : ℕ → ℤ
less n = neg_ℤ (pos n)

pub coincident-rows :
    (values (constraint_of kind.POINTS_COINCIDENT 9 (pos 0) 7 0) ≡ less 3 ∷ less 4 ∷ [])
    × (values (constraint_of kind.POINTS_COINCIDENT 0 (pos 0) 7 0) ≡ less 3 ∷ less 4 ∷ less 12 ∷ [])
unfolding point_rows points_difference point_at vector_difference
coincident-rows = (refl, refl)

-- 3, 4 and 5 are the sides of a triangle with a right angle, and so are 5, 12 and 13
pub apart-rows :
    (values (constraint_of kind.POINT_POINT_DISTANCE 9 (pos 5) 7 0) ≡ pos 0 ∷ [])
    × (values (constraint_of kind.POINT_POINT_DISTANCE 9 (less 4) 7 0) ≡ pos 9 ∷ [])
    × (values (constraint_of kind.POINT_POINT_DISTANCE 0 (pos 13) 7 0) ≡ pos 0 ∷ [])
unfolding point_rows points_apart points_difference point_at vector_difference squared dot
apart-rows = (refl, refl, refl)

pub plane-rows :
    (values (constraint_of kind.POINT_PLANE_DISTANCE 9 (pos 5) 7 4) ≡ pos 6 ∷ [])
    × (values (constraint_of kind.POINT_IN_PLANE 9 (pos 5) 7 4) ≡ pos 11 ∷ [])
unfolding point_rows over_plane in_plane height_over point_at frame_at vector_difference dot
plane-rows = (refl, refl)

pub symmetric-rows :
    (values (constraint_of kind.SYMMETRIC 0 (pos 0) 7 4) ≡ pos 82 ∷ less 3 ∷ pos 20 ∷ [])
    × (values (constraint_of kind.SYMMETRIC 9 (pos 0) 7 4) ≡ pos 82 ∷ pos 17 ∷ [])
unfolding point_rows symmetric_over_plane points_difference point_at frame_at vector_sum vector_difference scaled dot cross minor
symmetric-rows = (refl, refl)

pub mirrored-rows :
    (values (constraint_of kind.SYMMETRIC_HORIZONTAL 9 (pos 0) 7 0) ≡ less 4 ∷ pos 5 ∷ [])
    × (values (constraint_of kind.SYMMETRIC_VERTICAL 9 (pos 0) 7 0) ≡ less 3 ∷ pos 8 ∷ [])
unfolding point_rows mirrored point_at
mirrored-rows = (refl, refl)

pub symmetric_over_line-rows : values (constraint_of kind.SYMMETRIC_LINE 9 (pos 0) 7 4) ≡ less 69 ∷ pos 129 ∷ []
unfolding point_rows symmetric_over_line points_difference point_at line_at line_vector end_at vector_sum vector_difference scaled dot minor
symmetric_over_line-rows = refl

-- by a point, in a workplane and in space, and by a workplane
pub middle-rows :
    (values (constraint_of kind.AT_MIDPOINT 9 (pos 0) 7 4) ≡ pos 15 ∷ pos 21 ∷ [])
    × (values (constraint_of kind.AT_MIDPOINT 0 (pos 0) 7 4) ≡ pos 2 ∷ pos 4 ∷ pos 1 ∷ [])
    × (values (constraint_of kind.AT_MIDPOINT 9 (pos 0) 0 4) ≡ pos 38 ∷ [])
unfolding point_rows middle point_at line_at end_at frame_at vector_sum vector_difference scaled dot
middle-rows = (refl, refl, refl)

-- a line, or two points
pub level-rows :
    (values (constraint_of kind.HORIZONTAL 9 (pos 0) 7 4) ≡ pos 15 ∷ [])
    × (values (constraint_of kind.HORIZONTAL 9 (pos 0) 7 0) ≡ less 4 ∷ [])
    × (values (constraint_of kind.VERTICAL 9 (pos 0) 7 4) ≡ pos 3 ∷ [])
    × (values (constraint_of kind.VERTICAL 9 (pos 0) 7 0) ≡ less 3 ∷ [])
unfolding point_rows level level_end line_at end_at point_at
level-rows = (refl, refl, refl, refl)

pub other-kinds : point_rows 0 (constraint_of kind.ANGLE 9 (pos 0) 7 4) parts ≡ []
unfolding point_rows
other-kinds = refl
