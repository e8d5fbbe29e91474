-- The needed parts of a constraint, as polynomials.
use Rattle.std.specs.Prelude.{◌==◌, ℕ, ℤ, not, List, [], ◌∷◌, ◌++◌, map, Option, Some, None, option_map, option_to_list, if◌then◌else◌}
use Rattle.std.specs.List.{filter}
use Rattle.sk_types.specs.declared.handle.EntityId.{EntityId}
use Rattle.sk_types.specs.declared.constraint.Constraint.{Constraint}
use Rattle.sk_types.specs.declared.constraint.Need.{Need}
use Rattle.sk_types.specs.declared.entity_kind.TheConstants as entity_kind
use Rattle.sk_types.specs.declared.constraint_kind.TheConstants as constraint_kind
use Rattle.sk_types.specs.Needs.{needs_of, part_takes, named}
use Rattle.sk_types.specs.Sizes.{has_entity}
use Rattle.sk_expr.specs.Poly.{Poly}
use Rattle.sk_expr.specs.Parts.{LinePoints, NormalAxes, RoundParts, PartsOf}
use Rattle.sk_geom.specs.Sources.{Source}
use Rattle.sk_system.specs.ByHandle.{entity_by, point_by, flat_by, frame_by, axes_by, distance_by, normal_of, distance_of, end_by, is_normal_by, is_arc_by, normal_plane}

-- the needed parts in whose place an entity of this number can stand, in order
unfoldable pub needed : {s : ℕ} → Constraint s → ℕ → List EntityId
needed c k = map (λ (n : Need). n.entity) (filter (λ (n : Need). part_takes n.part k) (needs_of c.kind c.points c.entities))

-- the constraint's workplane, where it has one
abbrev pub workplane_of : {s : ℕ} → Constraint s → Option EntityId
workplane_of c = if has_entity c.workplane then Some c.workplane else None

-- points in a plane, none where there is no plane
abbrev pub flat_points : {s : ℕ} → Source s → Option EntityId → List EntityId → List (List (Poly ℤ))
flat_points o None es = []
flat_points o (Some w) es = map (flat_by o w) es

abbrev pub space_points : {s : ℕ} → Source s → List EntityId → List (List (Poly ℤ))
space_points o es = map (point_by o) es

-- ---- lines

unfoldable pub line_by : {s : ℕ} → Source s → Option EntityId → EntityId → LinePoints
line_by o w e =
    let ends = end_by o e 0 ∷ end_by o e 1 ∷ [] in
    record { ends = space_points o ends; flat = flat_points o w ends }

-- ---- circles and arcs

-- the start and the end of an arc
abbrev pub arc_ends : {s : ℕ} → Source s → EntityId → List EntityId
arc_ends o e = if is_arc_by o e then end_by o e 1 ∷ end_by o e 2 ∷ [] else []

-- what isn't an arc has a distance
abbrev pub radius_by : {s : ℕ} → Source s → EntityId → Option (Poly ℤ)
radius_by o e = if is_arc_by o e then None else Some (distance_by o (distance_of (entity_by o e)))

abbrev pub two_axes : NormalAxes → List (List (Poly ℤ))
two_axes a = a.u ∷ a.v ∷ []

-- U and V of a normal that isn't drawn in a workplane
abbrev pub axes_unless : {s : ℕ} → Source s → Option EntityId → EntityId → List (List (Poly ℤ))
axes_unless o (Some w) n = []
axes_unless o None n = two_axes (axes_by o n)

-- in the plane w
unfoldable pub round_by : {s : ℕ} → Source s → Option EntityId → EntityId → RoundParts
round_by o w e = record {
  centre = point_by o (end_by o e 0);
  ends = space_points o (arc_ends o e);
  flat_centre = option_map (λ p. flat_by o p (end_by o e 0)) w;
  flat_ends = flat_points o w (arc_ends o e);
  distance = radius_by o e;
  axes = axes_unless o (normal_plane o e) (normal_of (entity_by o e));
}

-- curves that touch are taken in the constraint's workplane, any other circle or arc in that of its normal
abbrev pub round_plane : {s : ℕ} → Source s → Constraint s → EntityId → Option EntityId
round_plane o c e = if c.kind == constraint_kind.CURVE_CURVE_TANGENT then workplane_of c else normal_plane o e

-- points are taken in the constraint's workplane, one on a circle or an arc in that of the curve's normal
abbrev pub points_plane : {s : ℕ} → Source s → Constraint s → Option EntityId
points_plane o c = if c.kind == constraint_kind.POINT_ON_CIRCLE then normal_plane o (named c.entities 0) else workplane_of c

-- ---- all parts

unfoldable pub constraint_parts : {s : ℕ} → Source s → Constraint s → PartsOf
constraint_parts o c =
    let points = needed c entity_kind.POINT_IN_SPACE in
    record {
      points = space_points o points;
      flat_points = flat_points o (points_plane o c) points;
      lines = map (line_by o (workplane_of c)) (filter (λ e. not (is_normal_by o e)) (needed c entity_kind.LINE));
      frames = map (frame_by o) (needed c entity_kind.WORKPLANE ++ option_to_list (workplane_of c));
      axes = map (axes_by o) (filter (is_normal_by o) (needed c entity_kind.NORMAL_IN_SPACE));
      rounds = map (λ e. round_by o (round_plane o c e) e) (needed c entity_kind.ARC);
      normals = map (is_normal_by o) c.entities;
    }
