-- Entities by their handles, as polynomials. What isn't there is 0.
use Rattle.std.specs.Prelude.{◌==◌, ℕ, ℤ, pos, Bool, false, List, [], Option, Some, None, if◌then◌else◌}
use Rattle.sk_types.specs.declared.handle.EntityId.{EntityId}
use Rattle.sk_types.specs.declared.entity.Entity.{Entity}
use Rattle.sk_types.specs.declared.entity_kind.TheConstants as entity_kind
use Rattle.sk_types.specs.Kinds.{is_normal}
use Rattle.sk_types.specs.Lookups.{entity_at}
use Rattle.sk_types.specs.Needs.{named}
use Rattle.sk_types.specs.Sizes.{is_arc}
use Rattle.sk_expr.specs.Poly.{Poly, number}
use Rattle.sk_expr.specs.Parts.{no_vector, PlaneFrame, NormalAxes}
use Rattle.sk_geom.specs.Sources.{Source, three_numbers, four_numbers}
use Rattle.sk_geom.specs.Quaternions.{quaternion_axes}
use Rattle.sk_geom.specs.EntityTrees.{of_entity, point_tree, normal_tree, distance_tree, flat_tree, frame}

abbrev pub entity_by : {s : ℕ} → Source s → EntityId → Option (Entity s)
entity_by o e = entity_at e.0 o.entities

-- ---- points

-- in space
unfoldable pub point_by : {s : ℕ} → Source s → EntityId → List (Poly ℤ)
point_by o e = of_entity (three_numbers []) (point_tree o) (entity_by o e)

abbrev pub both_there : {s : ℕ} → Source s → Option (Entity s) → Option (Entity s) → List (Poly ℤ)
both_there o None e = no_vector
both_there o (Some w) None = no_vector
both_there o (Some w) (Some e) = flat_tree o w e

-- e in the workplane w
unfoldable pub flat_by : {s : ℕ} → Source s → EntityId → EntityId → List (Poly ℤ)
flat_by o w e = both_there o (entity_by o w) (entity_by o e)

-- ---- workplanes, normals, distances

abbrev pub frame_or_none : {s : ℕ} → Source s → Option (Entity s) → PlaneFrame
frame_or_none o None = record { origin = three_numbers []; u = three_numbers []; v = three_numbers []; n = three_numbers [] }
frame_or_none o (Some w) = frame o w

unfoldable pub frame_by : {s : ℕ} → Source s → EntityId → PlaneFrame
frame_by o w = frame_or_none o (entity_by o w)

unfoldable pub axes_by : {s : ℕ} → Source s → EntityId → NormalAxes
axes_by {s} o e = quaternion_axes s (of_entity (four_numbers []) (normal_tree o) (entity_by o e))

abbrev pub distance_or_none : {s : ℕ} → Source s → Option (Entity s) → Poly ℤ
distance_or_none o None = number (pos 0)
distance_or_none o (Some e) = distance_tree o e

unfoldable pub distance_by : {s : ℕ} → Source s → EntityId → Poly ℤ
distance_by o e = distance_or_none o (entity_by o e)

-- ---- what an entity names

abbrev pub points_of : {s : ℕ} → Option (Entity s) → List EntityId
points_of None = []
points_of (Some e) = e.points

abbrev pub normal_of : {s : ℕ} → Option (Entity s) → EntityId
normal_of None = record { 0 = 0 }
normal_of (Some e) = e.normal

abbrev pub distance_of : {s : ℕ} → Option (Entity s) → EntityId
distance_of None = record { 0 = 0 }
distance_of (Some e) = e.distance

-- the point that it names in this place
abbrev pub end_by : {s : ℕ} → Source s → EntityId → ℕ → EntityId
end_by o e i = named (points_of (entity_by o e)) i

-- ---- of what kind it is

abbrev pub is_of : {s : ℕ} → (ℕ → Bool) → Option (Entity s) → Bool
is_of test None = false
is_of test (Some e) = test e.kind

abbrev pub is_normal_by : {s : ℕ} → Source s → EntityId → Bool
is_normal_by o e = is_of is_normal (entity_by o e)

abbrev pub is_arc_by : {s : ℕ} → Source s → EntityId → Bool
is_arc_by o e = is_arc (entity_by o e)

abbrev pub is_cubic_by : {s : ℕ} → Source s → EntityId → Bool
is_cubic_by o e = is_of (λ k. k == entity_kind.CUBIC) (entity_by o e)

-- the workplane of a normal that is drawn in one
abbrev pub drawn_in : {s : ℕ} → Option (Entity s) → Option EntityId
drawn_in None = None
drawn_in (Some n) = if n.kind == entity_kind.NORMAL_IN_WORKPLANE then Some n.workplane else None

-- that of a circle's or an arc's normal
abbrev pub normal_plane : {s : ℕ} → Source s → EntityId → Option EntityId
normal_plane o e = drawn_in (entity_by o (normal_of (entity_by o e)))
