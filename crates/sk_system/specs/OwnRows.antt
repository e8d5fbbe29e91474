-- What a group's own entities stand at, and the rows of entities and of the group itself.
use Rattle.std.specs.Prelude.{◌==◌, ◌&&◌, ℕ, ℤ, pos, Bool, true, false, List, [], ◌∷◌, ◌++◌, if◌then◌else◌}
use Rattle.sk_types.specs.declared.handle.EntityId.{EntityId}
use Rattle.sk_types.specs.declared.entity.Entity.{Entity}
use Rattle.sk_types.specs.declared.group.Group.{Group}
use Rattle.sk_types.specs.declared.group.GroupKind.{GroupKind}
use Rattle.sk_types.specs.declared.group.GroupKind.TheVariants.{Space, Plane, Extrude, Translate, Linked}
use Rattle.sk_types.specs.declared.entity_kind.TheConstants as entity_kind
use Rattle.sk_types.specs.Handles.{maker_of}
use Rattle.sk_types.specs.Kinds.{is_point, is_normal, is_distance, is_face}
use Rattle.sk_types.specs.Needs.{named}
use Rattle.sk_types.specs.Sizes.{has_entity, is_by_request}
use Rattle.sk_expr.specs.declared.row.RowKind.TheVariants.{OfEntity, OfGroup}
use Rattle.sk_expr.specs.Poly.{Poly, number, minus}
use Rattle.sk_expr.specs.Rows.{NamedRow}
use Rattle.sk_expr.specs.Vectors.{whole, vector_difference, dot, squared}
use Rattle.sk_expr.specs.Readings.{rows_from}
use Rattle.sk_geom.specs.Sources.{Source, group_vector, group_quaternion}
use Rattle.sk_geom.specs.EntityTrees.{point_tree, normal_tree, distance_tree}
use Rattle.sk_face.specs.FaceRows.{face_normal}
use Rattle.sk_system.specs.ByHandle.{flat_by, frame_by}
use Rattle.sk_system.specs.Contacts.{face_of}

-- ---- numbers

-- the numbers at which an entity stands: a point's x, y, z and 0, a normal's w, x, y, z, a distance and three 0, or 0 and a
-- face's normal vector; those of faces are taken once a group is solved, and don't count as read
pub record OwnNumbers : Type 0 where
  pub entity : EntityId
  pub trees : List (Poly ℤ)
  pub is_read : Bool

abbrev pub nought : Poly ℤ
nought = number (pos 0)

abbrev pub read_numbers : EntityId → List (Poly ℤ) → OwnNumbers
read_numbers e ts = record { entity = e; trees = ts; is_read = true }

unfoldable pub own_numbers : {s : ℕ} → Source s → Entity s → List OwnNumbers
own_numbers o e =
    if is_point e.kind then read_numbers e.id (point_tree o e ++ nought ∷ []) ∷ [] else
    if is_normal e.kind then read_numbers e.id (normal_tree o e) ∷ [] else
    if is_distance e.kind then read_numbers e.id (distance_tree o e ∷ nought ∷ nought ∷ nought ∷ []) ∷ [] else
    if is_face e.kind then record { entity = e.id; trees = nought ∷ face_normal (face_of o e); is_read = false } ∷ [] else []

-- ---- rows of entities

-- |q|^2 - 1
unfoldable pub unit_row : ℕ → List (Poly ℤ) → Poly ℤ
unit_row s q = minus (squared q) (whole s 1)

-- |start - centre|^2 - |end - centre|^2
unfoldable pub arc_row : List (Poly ℤ) → List (Poly ℤ) → List (Poly ℤ) → Poly ℤ
arc_row centre start end = minus (squared (vector_difference start centre)) (squared (vector_difference end centre))

-- in the arc's workplane
abbrev pub arc_row_of : {s : ℕ} → Source s → Entity s → Poly ℤ
arc_row_of o e = let p = flat_by o e.workplane in arc_row (p (named e.points 0)) (p (named e.points 1)) (p (named e.points 2))

-- a normal in space has length 1, and an arc of a request two equal radii
unfoldable pub entity_row_trees : {s : ℕ} → Source s → Entity s → List (Poly ℤ)
entity_row_trees {s} o e =
    if e.kind == entity_kind.NORMAL_IN_SPACE then unit_row s (normal_tree o e) ∷ [] else
    if e.kind == entity_kind.ARC && is_by_request (maker_of e.id.0) then arc_row_of o e ∷ [] else []

abbrev pub named_entity_rows : {s : ℕ} → Source s → Entity s → List NamedRow
named_entity_rows o e = rows_from OfEntity e.id.0 0 (entity_row_trees o e)

-- ---- rows of the group

-- the vector goes along the normal of the workplane w, or stays in it
abbrev pub along : {s : ℕ} → Source s → EntityId → List (Poly ℤ)
along o w = dot (frame_by o w).u (group_vector o) ∷ dot (frame_by o w).v (group_vector o) ∷ []

abbrev pub within : {s : ℕ} → Source s → EntityId → List (Poly ℤ)
within o w = dot (frame_by o w).n (group_vector o) ∷ []

-- an extrusion goes along its workplane's normal, a translation stays in its workplane, and a linked part's quaternion has
-- length 1
unfoldable pub group_row_trees : {s : ℕ} → Source s → EntityId → GroupKind → List (Poly ℤ)
group_row_trees o w Space = []
group_row_trees o w Plane = []
group_row_trees o w Extrude = if has_entity w then along o w else []
group_row_trees o w Translate = if has_entity w then within o w else []
group_row_trees {s} o w Linked = unit_row s (group_quaternion o) ∷ []

abbrev pub named_group_rows : {s : ℕ} → Source s → Group s → List NamedRow
named_group_rows o g = rows_from OfGroup g.id.0 0 (group_row_trees o g.entity_b g.kind)
