-- The entities of a drawing in a workplane, an extrusion, a translation and a linked part (SolveSpace's numbering).
use Rattle.std.specs.Prelude.{ℕ, ◌==◌, ℤ, false, List, [], ◌∷◌, ◌++◌, map, take, Option, Some, None, Result, Ok, Err, if◌then◌else◌}
use Rattle.std.specs.Option.{option_map}
use Rattle.std.specs.List.{filter, find, flat_map}
use Rattle.sk_num.specs.Each.{each_some}
use Rattle.sk_num.specs.Rounding.{rounded_product}
use Rattle.sk_types.specs.declared.handle.EntityId.{EntityId}
use Rattle.sk_types.specs.declared.handle.Maker.{Maker}
use Rattle.sk_types.specs.declared.handle.Maker.TheVariants.{OfRequest, OfGroup}
use Rattle.sk_types.specs.declared.entity.Entity.{Entity}
use Rattle.sk_types.specs.declared.entity.Numbering.{Numbering}
use Rattle.sk_types.specs.declared.entity.Numbering.TheVariants.{Own, Moved, Copied, Placed, Nothing}
use Rattle.sk_types.specs.declared.group.Group.{Group}
use Rattle.sk_types.specs.declared.group.GroupKind.{GroupKind}
use Rattle.sk_types.specs.declared.group.GroupKind.TheVariants.{Space, Plane, Extrude, Translate, Linked}
use Rattle.sk_types.specs.declared.group.RemapEntry.{RemapEntry}
use Rattle.sk_types.specs.declared.entity_kind.TheConstants as entity_kind
use Rattle.sk_types.specs.Copies.{CopyKey}
use Rattle.sk_types.specs.Handles.{item_of_group, item_of_request, maker_of, none}
use Rattle.sk_types.specs.Kinds.{has_numbers, is_distance, is_face, is_normal, is_point}
use Rattle.sk_types.specs.Lists.{only_if}
use Rattle.sk_types.specs.Needs.{named}
use Rattle.sk_copy.specs.declared.copy_number.TheConstants as which
use Rattle.sk_copy.specs.declared.fault.CopyFault.{CopyFault}
use Rattle.sk_copy.specs.declared.fault.CopyFault.TheVariants.{Full, PastLimit}
use Rattle.sk_copy.specs.Extended.{extended, number_in}
use Rattle.sk_copy.specs.Order.{by_handle}
use Rattle.sk_copy.specs.Wanted.{Move, moves_by, is_extruded, is_translated, is_linked, wanted}

-- the number that a copy has in its group
abbrev pub NumberOf : Type 0
NumberOf = CopyKey → ℕ

abbrev pub group_item : {s : ℕ} → Group s → ℕ → EntityId
group_item g i = record { 0 = item_of_group g.id.0 i }

-- what a group makes is in no workplane; it isn't for construction unless it inherits that
abbrev pub group_entity : {s : ℕ} → Group s → ℕ → ℕ → List EntityId → EntityId → Numbering s → Entity s
group_entity g item kind points normal numbers = record {
  id = group_item g item;
  kind = kind;
  group = g.id;
  construction = false;
  points = points;
  normal = normal;
  distance = none;
  workplane = none;
  numbers = numbers;
}

-- ---- a drawing in a workplane: the workplane, its normal and its origin

-- two lines give the frame only when their numbers are known
abbrev pub plane_numbers : {s : ℕ} → Group s → Numbering s
plane_numbers g = if g.by_lines then Nothing else Placed g.quaternion

abbrev pub plane_entities : {s : ℕ} → Group s → List (Entity s)
plane_entities g =
    group_entity g 0 entity_kind.WORKPLANE (group_item g 2 ∷ []) (group_item g 1) Nothing ∷
    group_entity g 1 entity_kind.COPIED_NORMAL [] none (plane_numbers g) ∷
    group_entity g 2 entity_kind.COPIED_POINT [] none (Copied g.origin) ∷ []

-- ---- one copy

-- the copy of an entity that is named; nothing stays nothing
abbrev pub copy_at : {s : ℕ} → Group s → NumberOf → ℕ → EntityId → EntityId
copy_at g number copy e = if e.0 == 0 then none else group_item g (number (e.0, copy))

-- what has numbers names nothing; what names others names their copies of the same number
abbrev pub copy_of : {s : ℕ} → Group s → NumberOf → ℕ → ℕ → Numbering s → Entity s → Entity s
copy_of g number copy kind numbers e = record {
  id = group_item g (number (e.id.0, copy));
  kind = kind;
  group = g.id;
  construction = e.construction;
  points = if has_numbers e.kind then [] else map (copy_at g number copy) e.points;
  normal = if has_numbers e.kind then none else copy_at g number copy e.normal;
  distance = if has_numbers e.kind then none else copy_at g number copy e.distance;
  workplane = none;
  numbers = numbers;
}

-- ---- moved copies

-- points are moved, normals and distances are those of the source, curves stay what they are
abbrev pub moved_kind : ℕ → ℕ
moved_kind k =
    if is_point k then entity_kind.MOVED_POINT else
    if is_normal k then entity_kind.COPIED_NORMAL else
    if is_distance k then entity_kind.COPIED_DISTANCE else k

abbrev pub moved_numbers : {s : ℕ} → ℤ → Entity s → Numbering s
moved_numbers times e = if is_point e.kind then Moved e.id times else if has_numbers e.kind then Copied e.id else Nothing

abbrev pub moved_copy : {s : ℕ} → Group s → NumberOf → Entity s → Move → Entity s
moved_copy g number e m = copy_of g number m.0 (moved_kind e.kind) (moved_numbers m.1 e) e

-- ---- an extrusion

-- the line from a point's copy at the top to that at the bottom
abbrev pub side_line : {s : ℕ} → Group s → NumberOf → Entity s → Entity s
side_line g number e =
    record (group_entity g (number (e.id.0, which.SIDE_LINE)) entity_kind.LINE (copy_at g number which.TOP e.id ∷ copy_at g number which.BOTTOM e.id ∷ []) none Nothing) { construction = e.construction }

-- the face between a line's two copies goes through the ends of that at the top
abbrev pub side_face : {s : ℕ} → Group s → NumberOf → Entity s → Entity s
side_face g number e = group_entity g (number (e.id.0, which.SIDE_FACE)) entity_kind.FACE_BY_LINE (map (copy_at g number which.TOP) (take 2 e.points)) none Nothing

abbrev pub end_copies : {s : ℕ} → Group s → NumberOf → Entity s → List (Entity s)
end_copies g number e = map (moved_copy g number e) (moves_by Extrude g)

abbrev pub extrude_as : {s : ℕ} → Group s → NumberOf → Entity s → List (Entity s)
extrude_as g number e = only_if (is_extruded e)
    (end_copies g number e ++ only_if (is_point e.kind) (side_line g number e ∷ []) ++ only_if (e.kind == entity_kind.LINE) (side_face g number e ∷ []))

-- the normal of a workplane: item 32 of its request, item 1 of its group
abbrev pub normal_by : Maker → EntityId
normal_by (OfRequest r i) = record { 0 = item_of_request r.0 32 }
normal_by (OfGroup g i) = record { 0 = item_of_group g.0 1 }

abbrev pub normal_of_plane : EntityId → EntityId
normal_of_plane p = if p.0 == 0 then none else normal_by (maker_of p.0)

abbrev pub end_face : {s : ℕ} → Group s → NumberOf → ℕ → EntityId → Entity s
end_face g number copy p = group_entity g (number (0, copy)) entity_kind.FACE_BY_NORMAL (copy_at g number copy p ∷ []) (normal_of_plane g.entity_b) Nothing

-- the first point of all
abbrev pub first_point : {s : ℕ} → List (Entity s) → Option EntityId
first_point es = option_map (λ e. e.id) (find (λ e. is_point e.kind) es)

-- the faces at the ends go through the copies of a point, if there is one
abbrev pub end_faces : {s : ℕ} → Group s → NumberOf → Option EntityId → List (Entity s)
end_faces g number None = []
end_faces g number (Some p) = end_face g number which.TOP p ∷ end_face g number which.BOTTOM p ∷ []

abbrev pub extrude : {s : ℕ} → Group s → NumberOf → List (Entity s) → List (Entity s)
extrude g number es = end_faces g number (first_point es) ++ flat_map (extrude_as g number) es

-- ---- a translation

-- a face goes through the copy of its first point
abbrev pub face_copy : {s : ℕ} → Group s → NumberOf → Entity s → ℕ → Entity s
face_copy g number e copy = group_entity g (number (e.id.0, copy)) entity_kind.MOVED_FACE (copy_at g number copy (named e.points 0) ∷ []) none (Copied e.id)

abbrev pub translated_by : {s : ℕ} → Group s → NumberOf → Entity s → Move → Entity s
translated_by g number e m = if is_face e.kind then face_copy g number e m.0 else moved_copy g number e m

abbrev pub translate_as : {s : ℕ} → Group s → NumberOf → Entity s → List (Entity s)
translate_as g number e = only_if (is_translated e) (map (translated_by g number e) (moves_by Translate g))

abbrev pub translate : {s : ℕ} → Group s → NumberOf → List (Entity s) → List (Entity s)
translate g number es = flat_map (translate_as g number) es

-- ---- a linked part

abbrev pub linked_kind : ℕ → ℕ
linked_kind k =
    if is_point k then entity_kind.TURNED_POINT else
    if is_normal k then entity_kind.TURNED_NORMAL else
    if is_distance k then entity_kind.COPIED_DISTANCE else k

-- points and distances are scaled, each number to the nearest unit, none where one passes the limit; normals are not
abbrev pub placed_as : ℕ → ℤ → ℕ → List ℤ → Option (List ℤ)
placed_as s scale k q = if is_normal k then Some q else each_some (λ x. rounded_product s x scale) q

abbrev pub linked_numbers : {s : ℕ} → ℤ → ℕ → Numbering s → Option (Numbering s)
linked_numbers {s} scale k (Placed q) = option_map Placed (placed_as s scale k q)
linked_numbers scale k (Own p) = Some Nothing
linked_numbers scale k (Moved e t) = Some Nothing
linked_numbers scale k (Copied e) = Some Nothing
linked_numbers scale k Nothing = Some Nothing

abbrev pub numbers_if : {s : ℕ} → ℤ → Entity s → Option (Numbering s)
numbers_if scale e = if has_numbers e.kind then linked_numbers scale e.kind e.numbers else Some Nothing

abbrev pub linked_copy : {s : ℕ} → Group s → NumberOf → Entity s → Option (Entity s)
linked_copy g number e = option_map (λ numbers. copy_of g number which.LINKED (linked_kind e.kind) numbers e) (numbers_if g.scale e)

abbrev pub link : {s : ℕ} → Group s → NumberOf → List (Entity s) → Option (List (Entity s))
link g number es = each_some (linked_copy g number) (filter (is_linked es) es)

-- ---- the whole

-- what a group makes of entities that it copies, by the numbers of their copies
abbrev pub made_by : {s : ℕ} → GroupKind → Group s → NumberOf → List (Entity s) → Option (List (Entity s))
made_by Space g number es = Some []
made_by Plane g number es = Some (plane_entities g)
made_by Extrude g number es = Some (extrude g number es)
made_by Translate g number es = Some (translate g number es)
made_by Linked g number es = link g number es

-- a list, and the entities that are made by its numbers, in rising handle order
pub record Copies (s : ℕ) : Type 0 where
  pub list : List RemapEntry
  pub entities : List (Entity s)

abbrev pub or_past : {s : ℕ} → List RemapEntry → Option (List (Entity s)) → Result (Copies s) CopyFault
or_past list None = Err PastLimit
or_past list (Some es) = Ok (record { list = list; entities = by_handle es })

abbrev pub over_list : {s : ℕ} → Group s → List (Entity s) → Option (List RemapEntry) → Result (Copies s) CopyFault
over_list g es None = Err Full
over_list g es (Some list) = or_past list (made_by g.kind g (number_in list) es)

-- the list is extended first
unfoldable pub copies : {s : ℕ} → Group s → List RemapEntry → List (Entity s) → Result (Copies s) CopyFault
copies g list es = over_list g es (extended (wanted g es) list)
