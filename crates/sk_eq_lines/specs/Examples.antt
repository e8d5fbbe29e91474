-- Worked formulas: what the auxiliaries and rows of each kind are worth for parts with plain numbers.
use Rattle.std.specs.Prelude.{◌≡◌, ℕ, ◌+◌, ◌-◌, ◌*◌, ◌^◌, ℤ, pos, neg_ℤ, List, [], ◌∷◌, ◌++◌, map, replicate, Bool, true, false, Option, Some, option_map, refl}
use Rattle.sk_num.specs.Ends.{Ends}
use Rattle.sk_types.specs.declared.handle.EntityId.{EntityId}
use Rattle.sk_types.specs.declared.constraint.Constraint.{Constraint}
use Rattle.sk_types.specs.declared.constraint_kind.TheConstants as kind
use Rattle.sk_cosine.specs.Rule.{ends}
use Rattle.sk_expr.specs.Poly.{Poly, number}
use Rattle.sk_expr.specs.ExactValue.{value_at}
use Rattle.sk_expr.specs.Vectors.{vector_difference, scaled, negated, dot, squared, minor, cross}
use Rattle.sk_expr.specs.Parts.{PartsOf, line_at, frame_at, axes_at, point_at, end_at, line_vector}
use Rattle.sk_expr.specs.SpanValue.{span_value}
use Rattle.sk_expr.specs.System.{ForcedPivot}
use Rattle.sk_expr.specs.Rows.{NamedRow}
use Rattle.sk_expr.specs.Seen.{Seen}
use Rattle.sk_expr.specs.Readings.{floor_root, all_relation_rows, Grown, grown_by}
use Rattle.sk_expr.specs.declared.row.RowKind.TheVariants.{OfConstraint}
use Rattle.sk_expr.specs.Formula.{Auxiliary, length_of, quotient_of, Relation, row, without_greatest, lesser, Formula, parallel, perpendicular}
use Rattle.sk_eq_lines.specs.LineRows.{normal_vector, normals_before, is_normal_at, direction_at, first_direction, foot, from_foot, side_of, height, cosine_of, from_line, apart_along, on_line, equal_lengths, length_ratio, length_as_height, equal_heights, longer_by, equal_angles, same_orientation, in_angle, line_formula}

abbrev handle_of : ℕ → EntityId
handle_of n = record { 0 = n }

-- a constraint in the workplane w, or by 0 in space
abbrev constraint_of : {s : ℕ} → ℕ → ℕ → ℤ → Bool → Constraint s
constraint_of k w value other = record {
  id = record { 0 = 1 };
  kind = k;
  group = record { 0 = 2 };
  workplane = handle_of w;
  value = value;
  points = handle_of 7 ∷ handle_of 8 ∷ [];
  entities = handle_of 3 ∷ handle_of 4 ∷ handle_of 5 ∷ handle_of 6 ∷ [];
  other = other;
  other2 = false;
  reference = false;
}

abbrev less : ℕ → ℤ
less n = neg_ℤ (pos n)

abbrev at : ℕ → ℕ → ℕ → List (Poly ℤ)
at x y z = number (pos x) ∷ number (pos y) ∷ number (pos z) ∷ []

abbrev in_plane_at : ℕ → ℕ → List (Poly ℤ)
in_plane_at u v = number (pos u) ∷ number (pos v) ∷ []

-- in space the first line has the vector (-2, -8, -3), the second (2, 1, -4); in the workplane (3, 15) and (-4, -1)
abbrev parts : List Bool → PartsOf
parts marks = record {
  points = at 1 2 3 ∷ at 4 6 15 ∷ [];
  flat_points = in_plane_at 1 2 ∷ in_plane_at 4 6 ∷ [];
  lines = record { ends = at 1 0 2 ∷ at 3 8 5 ∷ []; flat = in_plane_at 10 20 ∷ in_plane_at 7 5 ∷ [] } ∷
      record { ends = at 2 1 0 ∷ at 0 0 4 ∷ []; flat = in_plane_at 1 3 ∷ in_plane_at 5 4 ∷ [] } ∷ [];
  frames = record { origin = at 1 1 1; u = at 1 0 0; v = number (pos 0) ∷ number (pos 4) ∷ number (less 3) ∷ []; n = at 0 3 4 } ∷ [];
  axes = record { u = at 1 2 3; v = at 0 1 0; n = at 2 1 7 } ∷ record { u = at 0 1 5; v = at 1 1 0; n = at 1 5 3 } ∷ [];
  rounds = [];
  normals = marks;
}

abbrev lines : List Bool
lines = false ∷ false ∷ false ∷ false ∷ []

-- entity A is a line, B a normal, C a line and D a normal
abbrev mixed : List Bool
mixed = false ∷ true ∷ false ∷ true ∷ []

-- with 1 for a unit; the unknown 12 is 3, the next ones 4 and on, and the cosine is 2
abbrev value : Poly ℤ → ℤ
value t = value_at 0 0 (λ i. pos 2) (λ i. pos (i - 9)) t

abbrev auxiliary_values : Auxiliary → List ℤ
auxiliary_values (length_of a) = map value a
auxiliary_values (quotient_of n d) = value n ∷ value d ∷ []

abbrev relation_values : Relation → List ℤ
relation_values (row t) = value t ∷ []
relation_values (without_greatest a b) = map value a ++ map value b
relation_values (lesser t u) = value t ∷ value u ∷ []

-- the auxiliaries' vectors or quotients, then the relations; of rows that are chosen by readings all, behind what is read
abbrev values : List Bool → Constraint 0 → List (List ℤ) × List (List ℤ)
values marks c = let f = line_formula 0 12 3 c (parts marks) in (map auxiliary_values f.auxiliaries, map relation_values f.relations)

-- twelve unknowns and three cosines are seen before a constraint
abbrev before : Seen
before = record { unknowns = replicate 12 (pos 7); rows = []; cosines = replicate 3 (ends (pos 0) (pos 1)); forced = [] }

-- the relation rows, chosen by readings
abbrev chosen : PartsOf → Constraint 0 → Option (List ℤ)
chosen m c = option_map (map value) (all_relation_rows 0 before (Formula.relations (line_formula 0 12 3 c m)))

pub from_line-rows :
    (values lines (constraint_of kind.POINT_LINE_DISTANCE 9 (pos 5) false) ≡ ((pos 3 ∷ pos 15 ∷ []) ∷ [], (pos 66 ∷ []) ∷ []))
    × (values lines (constraint_of kind.POINT_LINE_DISTANCE 0 (pos 5) false) ≡ ((less 19 ∷ pos 77 ∷ []) ∷ [], (pos 787 ∷ []) ∷ []))
unfolding line_formula from_line foot from_foot side_of line_at point_at end_at line_vector vector_difference scaled dot squared minor
from_line-rows = (refl, refl)

-- along a line, and along a normal; in space though there is a workplane
pub apart_along-rows :
    (values lines (constraint_of kind.PROJECTED_DISTANCE 9 (pos 5) false) ≡ ((less 2 ∷ less 8 ∷ less 3 ∷ []) ∷ [], (less 89 ∷ []) ∷ []))
    × (values (true ∷ false ∷ []) (constraint_of kind.PROJECTED_DISTANCE 9 (pos 5) false) ≡ ((pos 2 ∷ pos 1 ∷ pos 7 ∷ []) ∷ [], (pos 79 ∷ []) ∷ []))
unfolding line_formula apart_along normal_vector normals_before is_normal_at direction_at line_at axes_at point_at end_at line_vector vector_difference dot
apart_along-rows = (refl, refl)

pub on_line-rows :
    (values lines (constraint_of kind.POINT_ON_LINE 9 (pos 5) false) ≡ ([], (pos 81 ∷ []) ∷ []))
    × (values lines (constraint_of kind.POINT_ON_LINE 0 (pos 5) false)
    ≡ ((less 19 ∷ pos 77 ∷ []) ∷ [], (less 2 ∷ less 8 ∷ less 3 ∷ pos 6 ∷ pos 26 ∷ pos 10 ∷ []) ∷ []))
unfolding line_formula on_line foot from_foot side_of line_at point_at end_at line_vector vector_difference scaled dot squared minor
on_line-rows = (refl, refl)

pub length-rows :
    (values lines (constraint_of kind.EQUAL_LENGTHS 9 (pos 0) false) ≡ ([], (pos 217 ∷ []) ∷ []))
    × (values lines (constraint_of kind.EQUAL_LENGTHS 0 (pos 0) false) ≡ ([], (pos 56 ∷ []) ∷ []))
    × (values lines (constraint_of kind.LENGTH_RATIO 9 (pos 2) false) ≡ ([], (pos 166 ∷ []) ∷ []))
    × (values lines (constraint_of kind.LENGTH_RATIO 0 (pos 2) false) ≡ ([], (less 7 ∷ []) ∷ []))
unfolding line_formula equal_lengths length_ratio line_at end_at line_vector vector_difference dot squared
length-rows = (refl, refl, refl, refl)

pub longer-rows :
    (values lines (constraint_of kind.LENGTH_DIFFERENCE 9 (pos 5) false) ≡ ((pos 3 ∷ pos 15 ∷ []) ∷ (less 4 ∷ less 1 ∷ []) ∷ [], (less 6 ∷ []) ∷ []))
    × (values lines (constraint_of kind.LENGTH_DIFFERENCE 0 (pos 5) false)
    ≡ ((less 2 ∷ less 8 ∷ less 3 ∷ []) ∷ (pos 2 ∷ pos 1 ∷ less 4 ∷ []) ∷ [], (less 6 ∷ []) ∷ []))
unfolding line_formula longer_by line_at end_at line_vector vector_difference
longer-rows = (refl, refl)

-- the point lies beside the second line
pub length_as_height-rows :
    (values lines (constraint_of kind.EQUAL_LENGTH_AND_DISTANCE 9 (pos 0) false)
    ≡ ((less 4 ∷ less 1 ∷ []) ∷ (pos 4 ∷ pos 3 ∷ []) ∷ [], (pos 218 ∷ []) ∷ []))
    × (values lines (constraint_of kind.EQUAL_LENGTH_AND_DISTANCE 0 (pos 0) false) ≡ ((less 13 ∷ pos 21 ∷ []) ∷ [], (less 201 ∷ []) ∷ []))
unfolding line_formula length_as_height height foot from_foot side_of line_at point_at end_at line_vector vector_difference scaled dot squared minor
length_as_height-rows = (refl, refl)

pub equal_heights-rows :
    (values lines (constraint_of kind.EQUAL_DISTANCES 9 (pos 0) false)
    ≡ ((pos 3 ∷ pos 15 ∷ []) ∷ (pos 81 ∷ pos 3 ∷ []) ∷ (less 4 ∷ less 1 ∷ []) ∷ (less 9 ∷ pos 5 ∷ []) ∷ [], (less 20 ∷ []) ∷ []))
    × (values lines (constraint_of kind.EQUAL_DISTANCES 0 (pos 0) false)
    ≡ ((less 19 ∷ pos 77 ∷ []) ∷ (less 51 ∷ pos 21 ∷ []) ∷ [], (less 186 ∷ []) ∷ []))
unfolding line_formula equal_heights height foot from_foot side_of line_at point_at end_at line_vector vector_difference scaled dot squared minor
equal_heights-rows = (refl, refl)

-- the other angle turns the first vector round
pub equal_angles-rows :
    (values mixed (constraint_of kind.EQUAL_ANGLES 9 (pos 0) true)
    ≡ (
      (less 3 ∷ less 15 ∷ []) ∷ (pos 2 ∷ less 17 ∷ []) ∷ (pos 249 ∷ pos 12 ∷ []) ∷ (less 4 ∷ less 1 ∷ []) ∷ (pos 1 ∷ pos 11 ∷ []) ∷ (less 15 ∷ pos 42 ∷ []) ∷ [],
      (less 3 ∷ []) ∷ [],
    ))
    × (values mixed (constraint_of kind.EQUAL_ANGLES 0 (pos 0) false)
    ≡ (
      (less 2 ∷ less 8 ∷ less 3 ∷ []) ∷ (pos 2 ∷ pos 1 ∷ pos 7 ∷ []) ∷ (less 33 ∷ pos 12 ∷ []) ∷
          (pos 2 ∷ pos 1 ∷ less 4 ∷ []) ∷ (pos 1 ∷ pos 5 ∷ pos 3 ∷ []) ∷ (less 5 ∷ pos 42 ∷ []) ∷ [],
      (less 3 ∷ []) ∷ [],
    ))
unfolding line_formula equal_angles cosine_of first_direction direction_at normal_vector normals_before is_normal_at frame_at axes_at line_at end_at line_vector vector_difference negated dot
equal_angles-rows = (refl, refl)

pub orientation-rows :
    values (true ∷ true ∷ []) (constraint_of kind.SAME_ORIENTATION 9 (pos 0) false)
    ≡ ([], (pos 2 ∷ pos 1 ∷ pos 7 ∷ less 32 ∷ pos 1 ∷ pos 9 ∷ []) ∷ (pos 3 ∷ pos 17 ∷ []) ∷ [])
unfolding line_formula same_orientation axes_at cross minor dot
orientation-rows = refl

-- with another U of the second normal
abbrev turned : List (Poly ℤ) → PartsOf
turned u = record (parts (true ∷ true ∷ [])) { axes = record { u = at 1 2 3; v = at 0 1 0; n = at 2 1 7 } ∷ record { u = u; v = at 1 1 0; n = at 1 5 3 } ∷ [] }

-- N reads greatest in its third component; of U . V, which is 3, and U . U it is the one that reads less, and of equal ones the first
pub orientation-chosen :
    (chosen (turned (at 0 1 5)) (constraint_of kind.SAME_ORIENTATION 9 (pos 0) false) ≡ Some (less 32 ∷ pos 1 ∷ pos 3 ∷ []))
    × (chosen (turned (at 2 0 0)) (constraint_of kind.SAME_ORIENTATION 9 (pos 0) false) ≡ Some (less 32 ∷ pos 1 ∷ pos 2 ∷ []))
    × (chosen (turned (map (λ n. number (less n)) (3 ∷ 0 ∷ 0 ∷ []))) (constraint_of kind.SAME_ORIENTATION 9 (pos 0) false)
    ≡ Some (less 32 ∷ pos 1 ∷ pos 3 ∷ []))
unfolding line_formula same_orientation axes_at cross minor dot span_value
orientation-chosen = (refl, refl, refl)

-- the first line reads greatest in its second component
pub line-chosen :
    (chosen (parts lines) (constraint_of kind.POINT_ON_LINE 0 (pos 0) false) ≡ Some (pos 6 ∷ pos 10 ∷ []))
    × (chosen (parts lines) (constraint_of kind.PARALLEL 0 (pos 0) false) ≡ Some (pos 35 ∷ pos 14 ∷ []))
unfolding line_formula on_line parallel foot from_foot direction_at normals_before is_normal_at line_at point_at end_at line_vector vector_difference scaled dot squared cross minor span_value
line-chosen = (refl, refl)

pub angle-rows :
    (values lines (constraint_of kind.ANGLE 9 (pos 60) true) ≡ ((less 3 ∷ less 15 ∷ []) ∷ (less 4 ∷ less 1 ∷ []) ∷ [], (pos 3 ∷ []) ∷ []))
    × (values mixed (constraint_of kind.ANGLE 0 (pos 60) false)
    ≡ ((less 2 ∷ less 8 ∷ less 3 ∷ []) ∷ (pos 2 ∷ pos 1 ∷ pos 7 ∷ []) ∷ [], (less 57 ∷ []) ∷ []))
unfolding line_formula in_angle first_direction direction_at normal_vector axes_at normals_before is_normal_at line_at end_at line_vector vector_difference negated dot
angle-rows = (refl, refl)

-- what is told of a constraint at a point: the unknowns; number and worth of each own row; cosines; forced pairs; the relation
-- rows
pub record Told : Type 0 where
  pub unknowns : List ℤ
  pub own : List (ℕ × ℤ)
  pub cosines : List Ends
  pub forced : List ForcedPivot
  pub relations : List (ℕ × ℤ)

abbrev numbered : NamedRow → ℕ × ℤ
numbered r = (r.name.index, value r.tree)

abbrev told : Grown → Told
told g =
    let seen = g.seen in
    record { unknowns = seen.unknowns; own = map numbered seen.rows; cosines = seen.cosines; forced = seen.forced; relations = map numbered g.rows }

-- the other angle of 60 degrees: the lengths read 8 and 4; with 3 and 4 for them their own rows are worth 9 - 77 and 16 - 21
pub angle-at_point :
    option_map told (grown_by 36 OfConstraint 1 (line_formula 36 12 3 (constraint_of kind.ANGLE 0 (pos (60 * 2 ^ 36)) true) (parts lines)) before)
    ≡ Some (record {
      unknowns = replicate 12 (pos 7) ++ pos 8 ∷ pos 4 ∷ [];
      own = (255, less 68) ∷ (255, less 5) ∷ [];
      cosines = replicate 3 (ends (pos 0) (pos 1)) ++ ends (pos (2 ^ 35 - 1)) (pos (2 ^ 35 + 1)) ∷ [];
      forced = record { row = 0; column = 12; is_length = true } ∷ record { row = 1; column = 13; is_length = true } ∷ [];
      relations = (0, less 24) ∷ [];
    })
unfolding line_formula in_angle first_direction direction_at normals_before is_normal_at line_at end_at line_vector vector_difference negated dot squared floor_root span_value grown_by
angle-at_point = refl

pub parallel-rows :
    (values lines (constraint_of kind.PARALLEL 9 (pos 0) false) ≡ ([], (pos 57 ∷ []) ∷ []))
    × (values lines (constraint_of kind.PARALLEL 0 (pos 0) false) ≡ ([], (less 2 ∷ less 8 ∷ less 3 ∷ pos 35 ∷ less 14 ∷ pos 14 ∷ []) ∷ []))
unfolding line_formula parallel direction_at normals_before is_normal_at line_at end_at line_vector vector_difference cross minor
parallel-rows = (refl, refl)

pub perpendicular-rows :
    (values lines (constraint_of kind.PERPENDICULAR 9 (pos 0) false) ≡ ([], (less 27 ∷ []) ∷ []))
    × (values mixed (constraint_of kind.PERPENDICULAR 0 (pos 0) false) ≡ ([], (less 33 ∷ []) ∷ []))
unfolding line_formula perpendicular direction_at normal_vector axes_at normals_before is_normal_at line_at end_at line_vector vector_difference dot
perpendicular-rows = (refl, refl)
