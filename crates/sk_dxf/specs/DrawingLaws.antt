-- What a drawing is made of: it begins and ends as a DXF does, and between stand the entities that the group draws, in handle order.
use Rattle.std.specs.Prelude.{◌≡◌, ℕ, List, ◌++◌, Ok, false}
use Rattle.std.specs.List.{All, Contains, flat_map}
use Rattle.sk_types.specs.declared.handle.EntityId.{EntityId}
use Rattle.sk_types.specs.declared.entity.Entity.{Entity}
use Rattle.sk_types.specs.declared.entity.Act.{Act}
use Rattle.sk_types.specs.Lookups.{Rise}
use Rattle.sk_dxf.specs.declared.shape.Shape.{Shape}
use Rattle.sk_dxf.specs.Plane.{PlaneNumbers, drawing_plane, plane_numbers}
use Rattle.sk_dxf.specs.Shapes.{shape_of}
use Rattle.sk_dxf.specs.Drawing.{section_head, section_end, drawn_text, group_drawing}

-- the group draws the entity: it is one of its own, not for construction, and nothing leaves it out
pub record Draws {s : ℕ} (plane : PlaneNumbers) (acts : List (Act s)) (group : ℕ) (e : Entity s) : Type 0 where
  pub own : e.group.0 ≡ group
  pub solid : e.construction ≡ false
  pub shape : Shape s
  pub drawn : shape_of plane acts e ≡ Ok shape

-- some of the entities, each one that the group draws, none missing, in handle order; their texts stand between the head and the end
pub record IsDrawingOf {s : ℕ} (plane : PlaneNumbers) (acts : List (Act s)) (group : ℕ) (es : List (Entity s)) (text : List ℕ) : Type 0 where
  pub drawn : List (Entity s)
  pub each : All (Draws plane acts group) drawn
  pub known : All (Contains es) drawn
  pub none_missing : (e : Entity s) → Contains es e → Draws plane acts group e → Contains drawn e
  pub rise : Rise drawn
  pub whole : text ≡ section_head ++ (flat_map (λ e. drawn_text (shape_of plane acts e)) drawn ++ section_end)

abbrev pub DrawingLaw : Type 0
DrawingLaw = (s : ℕ) (es : List (Entity s)) (acts : List (Act s)) (group : ℕ) (active : EntityId) → Rise es →
    IsDrawingOf (plane_numbers acts (drawing_plane es active)) acts group es (group_drawing es acts group active)
