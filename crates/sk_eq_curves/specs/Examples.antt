-- Worked formulas: what the auxiliaries and rows of each kind are worth for parts with plain numbers.
use Rattle.std.specs.Prelude.{◌≡◌, ℕ, ◌-◌, ℤ, pos, neg_ℤ, List, [], ◌∷◌, map, Bool, true, false, Some, None, refl}
use Rattle.sk_types.specs.declared.handle.EntityId.{EntityId}
use Rattle.sk_types.specs.declared.constraint.Constraint.{Constraint}
use Rattle.sk_types.specs.declared.constraint_kind.TheConstants as kind
use Rattle.sk_expr.specs.Poly.{Poly, number}
use Rattle.sk_expr.specs.ExactValue.{value_at}
use Rattle.sk_expr.specs.Vectors.{vector_difference, dot, squared, minor}
use Rattle.sk_expr.specs.Parts.{PartsOf, RoundParts, round_at, line_at, point_at, end_at, line_vector}
use Rattle.sk_expr.specs.Formula.{Auxiliary, length_of, quotient_of, Relation, row, without_greatest, lesser, perpendicular}
use Rattle.sk_eq_curves.specs.CurveRows.{spoke, flat_spoke, start_spoke, radius_auxiliaries, radius_of, diameter, from_centre, on_circle, arc_touches_line, arcs_touch, equal_radii, curve_formula}

abbrev handle_of : ℕ → EntityId
handle_of n = record { 0 = n }

abbrev constraint_of : {s : ℕ} → ℕ → ℤ → Bool → Bool → Constraint s
constraint_of k value other other2 = record {
  id = record { 0 = 1 };
  kind = k;
  group = record { 0 = 2 };
  workplane = handle_of 9;
  value = value;
  points = handle_of 7 ∷ handle_of 8 ∷ [];
  entities = handle_of 3 ∷ handle_of 4 ∷ handle_of 0 ∷ handle_of 0 ∷ [];
  other = other;
  other2 = other2;
  reference = false;
}

abbrev less : ℕ → ℤ
less n = neg_ℤ (pos n)

abbrev at : ℕ → ℕ → ℕ → List (Poly ℤ)
at x y z = number (pos x) ∷ number (pos y) ∷ number (pos z) ∷ []

abbrev in_plane_at : ℕ → ℕ → List (Poly ℤ)
in_plane_at u v = number (pos u) ∷ number (pos v) ∷ []

-- a circle with the radius 7
abbrev circle : RoundParts
circle = record { centre = at 1 1 1; ends = []; flat_centre = Some (in_plane_at 2 3); flat_ends = []; distance = Some (number (pos 7)); axes = [] }

-- arcs in their planes: from the centre it is (3, 4) and (6, 2) to start and end of the one, (2, 1) and (1, 5) of the other
abbrev flat_arc : RoundParts
flat_arc = record {
  centre = at 0 1 2;
  ends = at 1 2 3 ∷ at 4 6 15 ∷ [];
  flat_centre = Some (in_plane_at 1 1);
  flat_ends = in_plane_at 4 5 ∷ in_plane_at 7 3 ∷ [];
  distance = None;
  axes = [];
}

abbrev other_arc : RoundParts
other_arc = record {
  centre = at 0 0 0;
  ends = at 1 2 3 ∷ at 4 6 15 ∷ [];
  flat_centre = Some (in_plane_at 0 0);
  flat_ends = in_plane_at 2 1 ∷ in_plane_at 1 5 ∷ [];
  distance = None;
  axes = [];
}

-- an arc with a normal that isn't a workplane's own: from the centre it is (1, 1, 1) and (4, 5, 13)
abbrev space_arc : RoundParts
space_arc = record {
  centre = at 0 1 2;
  ends = at 1 2 3 ∷ at 4 6 15 ∷ [];
  flat_centre = None;
  flat_ends = [];
  distance = None;
  axes = at 1 0 0 ∷ (number (pos 0) ∷ number (pos 4) ∷ number (less 3) ∷ []) ∷ [];
}

-- a circle with the radius 7 about the same normal
abbrev space_circle : RoundParts
space_circle = record space_arc { ends = []; distance = Some (number (pos 7)) }

abbrev parts : List RoundParts → PartsOf
parts rs = record {
  points = at 1 2 3 ∷ [];
  flat_points = in_plane_at 6 4 ∷ [];
  lines = record { ends = at 1 0 2 ∷ at 3 8 5 ∷ []; flat = [] } ∷ [];
  frames = [];
  axes = [];
  rounds = rs;
  normals = false ∷ false ∷ false ∷ false ∷ [];
}

-- with 1 for a unit; the unknown 12 is 3, the next one 4
abbrev value : Poly ℤ → ℤ
value t = value_at 0 0 (λ i. pos 0) (λ i. pos (i - 9)) t

abbrev auxiliary_values : Auxiliary → List ℤ
auxiliary_values (length_of a) = map value a
auxiliary_values (quotient_of n d) = value n ∷ value d ∷ []

abbrev relation_values : Relation → List ℤ
relation_values (row t) = value t ∷ []
relation_values (without_greatest a b) = map value b
relation_values (lesser t u) = value t ∷ value u ∷ []

-- the auxiliaries' vectors, then the relations
abbrev values : List RoundParts → Constraint 0 → List (List ℤ) × List (List ℤ)
values rs c = let f = curve_formula 0 12 c (parts rs) in (map auxiliary_values f.auxiliaries, map relation_values f.relations)

pub diameter-rows :
    (values (circle ∷ []) (constraint_of kind.DIAMETER (pos 5) false false) ≡ ([], (pos 9 ∷ []) ∷ []))
    × (values (flat_arc ∷ []) (constraint_of kind.DIAMETER (pos 5) false false) ≡ ((pos 3 ∷ pos 4 ∷ []) ∷ [], (pos 1 ∷ []) ∷ []))
    × (values (space_arc ∷ []) (constraint_of kind.DIAMETER (pos 5) false false) ≡ ((pos 1 ∷ pos 1 ∷ pos 1 ∷ []) ∷ [], (pos 1 ∷ []) ∷ []))
unfolding curve_formula diameter radius_auxiliaries radius_of start_spoke spoke flat_spoke round_at vector_difference
diameter-rows = (refl, refl, refl)

pub on_circle-rows :
    (values (circle ∷ []) (constraint_of kind.POINT_ON_CIRCLE (pos 5) false false) ≡ ([], (less 32 ∷ []) ∷ []))
    × (values (flat_arc ∷ []) (constraint_of kind.POINT_ON_CIRCLE (pos 5) false false) ≡ ((pos 3 ∷ pos 4 ∷ []) ∷ [], (pos 25 ∷ []) ∷ []))
    × (values (space_arc ∷ []) (constraint_of kind.POINT_ON_CIRCLE (pos 5) false false) ≡ ((pos 1 ∷ pos 1 ∷ pos 1 ∷ []) ∷ [], (less 7 ∷ []) ∷ []))
    × (values (space_circle ∷ []) (constraint_of kind.POINT_ON_CIRCLE (pos 5) false false) ≡ ([], (less 47 ∷ []) ∷ []))
unfolding curve_formula on_circle from_centre radius_auxiliaries radius_of start_spoke spoke flat_spoke round_at point_at vector_difference dot squared
on_circle-rows = (refl, refl, refl, refl)

-- at the start, and at the end
pub arc_line-rows :
    (values (flat_arc ∷ []) (constraint_of kind.ARC_LINE_TANGENT (pos 0) false true) ≡ ([], (less 13 ∷ []) ∷ []))
    × (values (flat_arc ∷ []) (constraint_of kind.ARC_LINE_TANGENT (pos 0) true false) ≡ ([], (less 87 ∷ []) ∷ []))
unfolding curve_formula arc_touches_line perpendicular spoke round_at line_at end_at line_vector vector_difference dot
arc_line-rows = (refl, refl)

pub arcs-rows :
    (values (flat_arc ∷ other_arc ∷ []) (constraint_of kind.CURVE_CURVE_TANGENT (pos 0) false true) ≡ ([], (pos 11 ∷ []) ∷ []))
    × (values (flat_arc ∷ other_arc ∷ []) (constraint_of kind.CURVE_CURVE_TANGENT (pos 0) true false) ≡ ([], (pos 2 ∷ []) ∷ []))
unfolding curve_formula arcs_touch flat_spoke round_at vector_difference minor
arcs-rows = (refl, refl)

-- only an arc's radius is an auxiliary
pub radii-rows :
    (values (circle ∷ flat_arc ∷ []) (constraint_of kind.EQUAL_RADII (pos 0) false false) ≡ ((pos 3 ∷ pos 4 ∷ []) ∷ [], (pos 4 ∷ []) ∷ []))
    × (values (space_arc ∷ circle ∷ []) (constraint_of kind.EQUAL_RADII (pos 0) false false) ≡ ((pos 1 ∷ pos 1 ∷ pos 1 ∷ []) ∷ [], (less 4 ∷ []) ∷ []))
    × (values (flat_arc ∷ other_arc ∷ []) (constraint_of kind.EQUAL_RADII (pos 0) false false)
    ≡ ((pos 3 ∷ pos 4 ∷ []) ∷ (pos 2 ∷ pos 1 ∷ []) ∷ [], (less 1 ∷ []) ∷ []))
unfolding curve_formula equal_radii radius_auxiliaries radius_of start_spoke spoke flat_spoke round_at vector_difference
radii-rows = (refl, refl, refl)
