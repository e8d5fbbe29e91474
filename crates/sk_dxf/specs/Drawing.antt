-- The drawing of a group, as a text of ASCII DXF with one section.
use Rattle.std.specs.Prelude.{◌==◌, ℕ, List, [], ◌++◌, codes, Option, option_map, Result, Ok, Err, if◌then◌else◌}
use Rattle.std.specs.List.{find, flat_map}
use Rattle.sk_types.specs.declared.handle.EntityId.{EntityId}
use Rattle.sk_types.specs.declared.handle.GroupId.{GroupId}
use Rattle.sk_types.specs.declared.group.Group.{Group}
use Rattle.sk_types.specs.declared.entity.Entity.{Entity}
use Rattle.sk_types.specs.declared.entity.Act.{Act}
use Rattle.sk_dxf.specs.declared.shape.Shape.{Shape}
use Rattle.sk_dxf.specs.declared.shape.LeftOut.{LeftOut}
use Rattle.sk_dxf.specs.Plane.{PlaneNumbers, drawing_plane, plane_numbers}
use Rattle.sk_dxf.specs.Shapes.{shape_of}
use Rattle.sk_dxf.specs.Lines.{shape_text}

abbrev pub section_head : List ℕ
section_head = codes "0\nSECTION\n2\nENTITIES\n"

abbrev pub section_end : List ℕ
section_end = codes "0\nENDSEC\n0\nEOF\n"

-- what is left out has no text
abbrev pub drawn_text : {s : ℕ} → Result (Shape s) LeftOut → List ℕ
drawn_text (Ok shape) = shape_text shape
drawn_text (Err why) = []

unfoldable pub entity_text : {s : ℕ} → PlaneNumbers → List (Act s) → ℕ → Entity s → List ℕ
entity_text plane acts group e = if e.group.0 == group then drawn_text (shape_of plane acts e) else []

-- the entities of the group, in their order
unfoldable pub entity_texts : {s : ℕ} → PlaneNumbers → List (Act s) → ℕ → List (Entity s) → List ℕ
entity_texts {s} plane acts group es = flat_map (entity_text {s = s} plane acts group) es

-- in the plane of what is active in the group
unfoldable pub group_drawing : {s : ℕ} → List (Entity s) → List (Act s) → ℕ → EntityId → List ℕ
group_drawing es acts group active = section_head ++ (entity_texts (plane_numbers acts (drawing_plane es active)) acts group es ++ section_end)

-- the workplane that is active in the group with the number, none where there is no such group
abbrev pub active_in : {s : ℕ} → ℕ → List (Group s) → Option EntityId
active_in {s} n gs = option_map (λ (g : Group s). g.active) (find (λ g. n == g.id.0) gs)

-- none where there is no such group
abbrev pub drawing : {s : ℕ} → List (Group s) → List (Entity s) → List (Act s) → GroupId → Option (List ℕ)
drawing gs es acts group = option_map (group_drawing es acts group.0) (active_in group.0 gs)
