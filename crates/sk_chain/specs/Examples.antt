-- The definitions on small models.
use Rattle.std.proofs.Common.{subst, sym}
use Rattle.std.proofs.lemmas.Bool.{eqb-true}
use Rattle.std.specs.Prelude.{◌≡◌, ◌==◌, ◌&&◌, ◌||◌, not, ℕ, ◌+◌, ◌*◌, ◌^◌, ℤ, pos, negsuc, List, [], ◌∷◌, ◌++◌, map, Bool, true, false, Option, Some, None, Result, Ok, Err, refl}
use Rattle.sk_types.specs.declared.handle.EntityId.{EntityId}
use Rattle.sk_types.specs.declared.handle.GroupId.{GroupId}
use Rattle.sk_types.specs.declared.constraint.Constraint.{Constraint}
use Rattle.sk_types.specs.declared.entity.Entity.{Entity}
use Rattle.sk_types.specs.declared.entity.Outline.{Outline}
use Rattle.sk_types.specs.declared.entity.Numbering.TheVariants.{Placed}
use Rattle.sk_types.specs.declared.group.Group.{Group}
use Rattle.sk_types.specs.declared.group.GroupKind.{GroupKind}
use Rattle.sk_types.specs.declared.group.GroupKind.TheVariants.{Space, Plane, Extrude, Translate, Linked}
use Rattle.sk_types.specs.declared.group.RemapEntry.{RemapEntry}
use Rattle.sk_types.specs.declared.request.Request.{Request}
use Rattle.sk_types.specs.Needs.{circles_of, needs_of, part_takes}
use Rattle.sk_entity.specs.Requests.{request_entities}
use Rattle.sk_copy.specs.Copies.{copies}
use Rattle.sk_copy.specs.Order.{in_order}
use Rattle.sk_model.specs.declared.faults.ModelFault.{ModelFault}
use Rattle.sk_model.specs.declared.faults.ModelFault.TheVariants.{NoSuch, Ahead, BadValue, TooMany}
use Rattle.sk_model.specs.declared.faults.What.TheVariants as what
use Rattle.sk_model.specs.declared.remap.GroupList.{GroupList}
use Rattle.sk_model.specs.Typed.{Typed}
use Rattle.sk_link.specs.declared.parts.Part.{Part}
use Rattle.sk_chain.specs.Dependence.{IsClosed, IsDirtySet, depends, is_listed, leans}
use Rattle.sk_chain.specs.Laws.{HasNamed}
use Rattle.sk_chain.specs.Made.{made_by, names_fault}
use Rattle.sk_chain.specs.Order.{group_order}
use Rattle.sk_chain.specs.Outlines.{Outlined, entities_fault, groups_fault, groups_made, lists_in, outlined, relisted}

abbrev at : ℕ → EntityId
at h = record { 0 = h }

-- ---- groups

abbrev group_of : ℕ → ℤ → GroupKind → ℕ → ℕ → ℕ → Group 36
group_of id order kind source origin entity_b = record {
  id = record { 0 = id };
  kind = kind;
  order = order;
  active = at 0;
  source = record { 0 = source };
  copies = 2;
  two_sided = false;
  skip_first = false;
  by_lines = false;
  quaternion = pos 1 ∷ pos 0 ∷ pos 0 ∷ pos 0 ∷ [];
  origin = at origin;
  entity_b = at entity_b;
  entity_c = at 0;
  swap_uv = false;
  negate_u = false;
  negate_v = false;
  scale = pos (2 * 2 ^ 36);
  remap = [];
  part = [];
}

abbrev space : ℕ → ℕ → Group 36
space id order = group_of id (pos order) Space 0 0 0

abbrev handles : List GroupId → List ℕ
handles gs = map (λ (g : GroupId). g.0) gs

-- group 1 before all, however high its order; groups 2 and 4 have the same
order_of_four : handles (group_order (space 4 1 ∷ space 2 1 ∷ group_of 3 (negsuc 1) Space 0 0 0 ∷ space 1 9 ∷ [])) ≡ 1 ∷ 3 ∷ 2 ∷ 4 ∷ []
unfolding in_order
order_of_four = refl

-- ---- requests and constraints

abbrev request_of : ℕ → ℕ → ℕ → ℕ → Request
request_of id kind group workplane = record {
  id = record { 0 = id };
  kind = kind;
  group = record { 0 = group };
  workplane = at workplane;
  construction = false;
  extra = 0;
}

abbrev constraint_of : ℕ → ℕ → ℕ → ℕ → ℕ → ℕ → Constraint 36
constraint_of id kind group workplane p q = record {
  id = record { 0 = id };
  kind = kind;
  group = record { 0 = group };
  workplane = at workplane;
  value = pos 0;
  points = at p ∷ at q ∷ [];
  entities = at 0 ∷ at 0 ∷ at 0 ∷ at 0 ∷ [];
  other = false;
  other2 = false;
  reference = false;
}

abbrev line_constraint : ℕ → ℕ → ℕ → Constraint 36
line_constraint kind group line = record (constraint_of 7 kind group 0 0 0) { entities = at line ∷ at 0 ∷ at 0 ∷ at 0 ∷ [] }

-- ---- a model: workplane 1 of group 1; line 4 of group 2, in the workplane; a point 5 of group 4, in space

abbrev plane : ℕ
plane = 65536

abbrev line : ℕ
line = 262144

-- its first point
abbrev end : ℕ
end = 262145

abbrev point : ℕ
point = 327680

-- item i of group g
abbrev made : ℕ → ℕ → ℕ
made g i = 2 ^ 31 + g * 65536 + i

abbrev drawn : List Request
drawn = request_of 1 100 1 0 ∷ request_of 5 101 4 0 ∷ request_of 4 200 2 plane ∷ []

-- with a group 3 between groups 2 and 4
abbrev model_with : Group 36 → List (Constraint 36) → Typed 36
model_with g cs = record { groups = space 4 3 ∷ g ∷ space 2 1 ∷ space 1 0 ∷ []; params = []; requests = drawn; constraints = cs }

abbrev third : GroupKind → ℕ → ℕ → ℕ → Group 36
third kind source origin entity_b = group_of 3 (pos 2) kind source origin entity_b

abbrev fault_in : Result (Outlined 36) ModelFault → Option ModelFault
fault_in (Ok o) = None
fault_in (Err f) = Some f

abbrev fault_with : Group 36 → List (Constraint 36) → Option ModelFault
fault_with g cs = fault_in (outlined [] (model_with g cs))

-- ---- what group 3 names

-- an origin: none, a request that isn't there, an item that a request hasn't, the group's own, a later request's, a later
-- group's, a line, and the end of the line
origins : map (λ (h : ℕ). fault_with (third Plane 0 h 0) []) (0 ∷ 589824 ∷ 262150 ∷ made 3 2 ∷ point ∷ made 4 0 ∷ made 9 0 ∷ line ∷ end ∷ []) ≡
    Some (NoSuch 3 0) ∷ Some (NoSuch 3 589824) ∷ Some (NoSuch 3 262150) ∷ Some (Ahead 3 (made 3 2)) ∷ Some (Ahead 3 point) ∷ Some (Ahead 3 (made 4 0)) ∷ Some (NoSuch 3 (made 9 0)) ∷ Some (BadValue 3) ∷ None ∷ []
unfolding outlined groups_made groups_fault entities_fault names_fault made_by copies request_entities needs_of circles_of part_takes in_order
origins = refl

-- its lines count only where they are to give the frame: the first line, then the second; the origin comes before them
abbrev by_lines : ℕ → ℕ → ℕ → Group 36
by_lines origin b c = record (third Plane 0 origin b) { by_lines = true; entity_c = at c }

lines_of_a_frame : map (λ (g : Group 36). fault_with g []) (third Plane 0 end 7 ∷ by_lines end line line ∷ by_lines end 7 8 ∷ by_lines end line 8 ∷ by_lines end end line ∷ by_lines 9 7 8 ∷ []) ≡
    None ∷ None ∷ Some (NoSuch 3 7) ∷ Some (NoSuch 3 8) ∷ Some (BadValue 3) ∷ Some (NoSuch 3 9) ∷ []
unfolding outlined groups_made groups_fault entities_fault names_fault made_by copies request_entities needs_of circles_of part_takes in_order
lines_of_a_frame = refl

-- a source: none, one that isn't there, the group itself, a later one, an earlier one, and group 1
sources : map (λ (n : ℕ). fault_with (third Extrude n 0 0) []) (0 ∷ 9 ∷ 3 ∷ 4 ∷ 2 ∷ 1 ∷ []) ≡ Some (NoSuch 3 0) ∷ Some (NoSuch 3 9) ∷ Some (Ahead 3 3) ∷ Some (Ahead 3 4) ∷ None ∷ None ∷ []
unfolding outlined groups_made groups_fault entities_fault names_fault made_by copies request_entities needs_of circles_of part_takes in_order
sources = refl

-- a workplane: none, the first one, a point, and one that is ahead; the source comes before it; an origin isn't looked at
planes : map (λ (g : Group 36). fault_with g []) (third Translate 2 7 0 ∷ third Translate 2 0 plane ∷ third Translate 2 0 end ∷ third Translate 2 0 (made 3 0) ∷ third Extrude 4 0 end ∷ []) ≡
    None ∷ None ∷ Some (BadValue 3) ∷ Some (Ahead 3 (made 3 0)) ∷ Some (Ahead 3 4) ∷ []
unfolding outlined groups_made groups_fault entities_fault names_fault made_by copies request_entities needs_of circles_of part_takes in_order
planes = refl

-- ---- what group 3 makes

abbrev entry : ℕ → ℕ → ℕ → RemapEntry
entry number source copy = record { number = number; source = at source; copy = copy }

-- a list with the greatest number is full, if a copy lacks; a full list comes before a number that passes the limit
abbrev stored : ℕ → ℕ → ℤ → Entity 36
stored h kind z = record { id = at h; kind = kind; group = record { 0 = 0 }; construction = false; points = []; normal = at 0; distance = at 0; workplane = at 0; numbers = Placed (z ∷ pos 0 ∷ pos 0 ∷ pos 0 ∷ []) }

abbrev part_of : ℤ → List (Part 36)
part_of z = record { group = record { 0 = 3 }; entities = stored 9 2000 z ∷ [] } ∷ []

abbrev linked_with : List RemapEntry → Group 36
linked_with list = record (third Linked 0 0 0) { remap = list }

abbrev linked_fault : ℤ → List RemapEntry → Option ModelFault
linked_fault z list = fault_in (outlined (part_of z) (model_with (linked_with list) []))

parts_are_copied :
    linked_fault (pos 1) [] ∷ linked_fault (pos 1) (entry 65535 7 0 ∷ []) ∷ linked_fault (pos 1) (entry 65535 9 0 ∷ []) ∷ linked_fault (pos (2 ^ 62)) [] ∷ linked_fault (pos (2 ^ 62)) (entry 65535 7 0 ∷ []) ∷ [] ≡
    None ∷ Some (TooMany what.Remap) ∷ None ∷ Some (BadValue 3) ∷ Some (TooMany what.Remap) ∷ []
unfolding outlined groups_made groups_fault entities_fault names_fault made_by copies request_entities needs_of circles_of part_takes in_order
parts_are_copied = refl

abbrev list_told : GroupList → ℕ × List (ℕ × (ℕ × ℕ))
list_told x = (x.group.0, map (λ (e : RemapEntry). (e.number, (e.source.0, e.copy))) x.entries)

abbrev lists_told : Result (Outlined 36) ModelFault → List (ℕ × List (ℕ × (ℕ × ℕ)))
lists_told r = map list_told (lists_in r)

-- the copies of group 4's point by a translation behind it go on from its list; every group has a list
abbrev moved : Typed 36
moved = model_with (record (group_of 3 (pos 9) Translate 4 0 0) { remap = entry 3 point 1000 ∷ [] }) []

lists_of_moved : lists_told (outlined [] moved) ≡ (1, []) ∷ (2, []) ∷ (4, []) ∷ (3, (3, (point, 1000)) ∷ (4, (point, 0)) ∷ []) ∷ []
unfolding outlined groups_made groups_fault entities_fault names_fault made_by copies request_entities needs_of circles_of part_takes in_order
lists_of_moved = refl

abbrev entities_told : Result (Outlined 36) ModelFault → List (ℕ × ℕ)
entities_told (Ok o) = map (λ (e : Entity 36). (e.id.0, e.kind)) o.outline.entities
entities_told (Err f) = []

-- all entities by rising handle, not group by group
entities_of_moved : entities_told (outlined [] moved) ≡
    (65536, 10000) ∷ (65537, 2000) ∷ (65568, 3000) ∷ (line, 11000) ∷ (end, 2001) ∷ (262146, 2001) ∷ (point, 2000) ∷ (made 3 3, 2010) ∷ (made 3 4, 2010) ∷ []
unfolding outlined groups_made groups_fault entities_fault names_fault made_by copies request_entities needs_of circles_of part_takes in_order
entities_of_moved = refl

-- over the lists that it has then it is the same
moved_again : outlined [] (relisted (lists_in (outlined [] moved)) moved) ≡ outlined [] moved
unfolding outlined groups_made groups_fault entities_fault names_fault made_by copies request_entities needs_of circles_of part_takes in_order
moved_again = refl

-- ---- what requests and constraints name

abbrev fault_of : List Request → List (Constraint 36) → Option ModelFault
fault_of rs cs = fault_in (outlined [] (record { groups = third Space 0 0 0 ∷ space 4 3 ∷ space 2 1 ∷ space 1 0 ∷ []; params = []; requests = drawn ++ rs; constraints = cs }))

-- a group that isn't there: of a request, then of a constraint; before what groups name
groups_there : fault_of (request_of 6 101 8 0 ∷ []) (constraint_of 7 30 9 0 0 0 ∷ []) ∷ fault_of [] (constraint_of 7 30 9 0 0 0 ∷ []) ∷ fault_in (outlined [] (model_with (third Plane 0 0 0) (constraint_of 7 30 9 0 0 0 ∷ []))) ∷ [] ≡
    Some (NoSuch 6 8) ∷ Some (NoSuch 7 9) ∷ Some (NoSuch 7 9) ∷ []
unfolding outlined groups_made groups_fault entities_fault names_fault made_by copies request_entities needs_of circles_of part_takes in_order
groups_there = refl

-- the workplane of a request in group 2: not there, a point, of a later group, and of its own group
workplanes : map (λ (h : ℕ). fault_of (request_of 6 101 2 h ∷ request_of 7 100 3 0 ∷ request_of 8 100 2 0 ∷ []) (constraint_of 9 30 2 0 0 0 ∷ [])) (8 ∷ end ∷ 458752 ∷ 524288 ∷ []) ≡
    Some (NoSuch 6 8) ∷ Some (BadValue 6) ∷ Some (Ahead 6 458752) ∷ Some (BadValue 9) ∷ []
unfolding outlined groups_made groups_fault entities_fault names_fault made_by copies request_entities needs_of circles_of part_takes in_order
workplanes = refl

-- a constraint in group 2: its workplane before its points, point A before point B; none is needed as a workplane; a reference too
constraints : map (λ (c : Constraint 36). fault_of [] (c ∷ [])) (
    constraint_of 7 30 2 9 8 0 ∷ constraint_of 7 30 2 0 0 8 ∷ constraint_of 7 30 2 0 8 0 ∷ constraint_of 7 30 2 plane end point ∷ constraint_of 7 30 4 plane end point ∷ constraint_of 7 30 2 0 end line ∷
    record (constraint_of 7 30 2 0 end 8) { reference = true } ∷ line_constraint 50 2 line ∷ line_constraint 80 2 line ∷ line_constraint 80 2 end ∷ []) ≡
    Some (NoSuch 7 9) ∷ Some (BadValue 7) ∷ Some (NoSuch 7 8) ∷ Some (Ahead 7 point) ∷ None ∷ Some (BadValue 7) ∷
    Some (NoSuch 7 8) ∷ Some (BadValue 7) ∷ None ∷ Some (BadValue 7) ∷ []
unfolding outlined groups_made groups_fault entities_fault names_fault made_by copies request_entities needs_of circles_of part_takes in_order
constraints = refl

-- ---- what depends on what

abbrev model_of : Group 36 → List Request → List (Constraint 36) → Typed 36
model_of g rs cs = record { groups = space 4 3 ∷ g ∷ space 2 1 ∷ space 1 0 ∷ []; params = []; requests = drawn ++ rs; constraints = cs }

abbrev third_depends : Typed 36 → Result (Outlined 36) ModelFault → List Bool
third_depends m (Err f) = []
third_depends m (Ok o) = map (λ (n : ℕ). depends m o.outline.entities (record { 0 = 3 }) (record { 0 = n })) (1 ∷ 2 ∷ 3 ∷ 4 ∷ [])

-- whether group 3 depends on groups 1 to 4
abbrev depends_told : Group 36 → List Request → List (Constraint 36) → List Bool
depends_told g rs cs = third_depends (model_of g rs cs) (outlined [] (model_of g rs cs))

abbrev none : List Bool
none = false ∷ false ∷ false ∷ false ∷ []

abbrev on_first : List Bool
on_first = true ∷ false ∷ false ∷ false ∷ []

abbrev on_second : List Bool
on_second = false ∷ true ∷ false ∷ false ∷ []

abbrev on_last : List Bool
on_last = false ∷ false ∷ false ∷ true ∷ []

-- by its source, its origin, entities B and C, in a group of any kind, also on a later group; by what isn't there on none
by_fields : map (λ (g : Group 36). depends_told g [] []) (
    third Space 0 0 0 ∷ third Space 2 0 0 ∷ third Space 0 end 0 ∷ third Space 0 0 plane ∷ record (third Space 0 0 0) { entity_c = at line } ∷ third Space 0 point 0 ∷ third Space 4 0 0 ∷ third Space 9 262150 0 ∷
    record (third Space 0 0 0) { active = at plane } ∷ []) ≡ none ∷ on_second ∷ on_second ∷ on_first ∷ on_second ∷ on_last ∷ on_last ∷ none ∷ none ∷ []
unfolding outlined groups_made groups_fault entities_fault names_fault made_by copies request_entities needs_of circles_of part_takes in_order depends
by_fields = refl

-- by the workplane of a request, and the workplane and the parts of a constraint, of a reference too; by what a constraint names and
-- doesn't need on none
by_things :
    depends_told (third Space 0 0 0) (request_of 6 101 3 plane ∷ []) [] ∷
    depends_told (third Space 0 0 0) [] (constraint_of 7 1000 3 plane 0 0 ∷ []) ∷
    depends_told (third Space 0 0 0) [] (line_constraint 80 3 line ∷ []) ∷
    depends_told (third Space 0 0 0) [] (record (line_constraint 80 3 line) { reference = true } ∷ []) ∷
    depends_told (third Space 0 0 0) [] (constraint_of 7 1000 3 0 end end ∷ []) ∷
    depends_told (third Space 0 0 0) (request_of 6 101 4 plane ∷ []) (line_constraint 80 4 line ∷ []) ∷ [] ≡
    on_first ∷ on_first ∷ on_second ∷ on_second ∷ none ∷ none ∷ []
unfolding outlined groups_made groups_fault entities_fault names_fault made_by copies request_entities needs_of circles_of part_takes in_order depends
by_things = refl

-- ---- dirty sets

abbrev group : ℕ → GroupId
group n = record { 0 = n }

abbrev four_groups : List GroupId
four_groups = group 1 ∷ group 2 ∷ group 3 ∷ group 4 ∷ []

-- each group depends on the one before it
abbrev in_a_row : GroupId → GroupId → Bool
in_a_row g h = g.0 == h.0 + 1

abbrev apart : GroupId → GroupId → Bool
apart g h = false

-- not what depends on the changed group alone: group 4 depends on group 3
followed : IsDirtySet in_a_row four_groups (group 2) (group 2 ∷ group 3 ∷ []) → false ≡ true
followed d = d.closed (group 4) (group 3) refl refl refl

-- not without the changed group
with_changed : IsDirtySet in_a_row four_groups (group 2) (group 3 ∷ group 4 ∷ []) → false ≡ true
with_changed d = d.has

-- no more than what is reached
no_more : IsDirtySet apart four_groups (group 2) (group 1 ∷ group 2 ∷ []) → false ≡ true
no_more d = d.least (group 2 ∷ []) refl (λ g h there depends. absurd cc) (group 1) refl

-- the groups stand in their order
ordered : IsDirtySet in_a_row four_groups (group 2) (group 3 ∷ group 2 ∷ group 4 ∷ []) → (group 3 ∷ group 2 ∷ group 4 ∷ []) ≡ (group 2 ∷ group 3 ∷ group 4 ∷ [])
ordered d = d.in_order

-- ---- a dirty set over an outline: group 3 draws at a point of group 2, and a constraint of group 4 names a point of group 3

abbrev end_by_end : Typed 36
end_by_end = model_of (third Plane 0 end 0) (request_of 6 101 3 0 ∷ []) (constraint_of 7 30 4 0 393216 point ∷ [])

abbrev outline_told : Result (Outlined 36) ModelFault → Outline 36
outline_told (Ok o) = o.outline
outline_told (Err f) = record { order = []; entities = [] }

abbrev end_outline : Outline 36
end_outline = outline_told (outlined [] end_by_end)

abbrev leans_on : GroupId → GroupId → Bool
leans_on = depends end_by_end end_outline.entities

end_order : end_outline.order ≡ four_groups
unfolding outlined groups_made groups_fault entities_fault names_fault made_by copies request_entities needs_of circles_of part_takes in_order
end_order = refl

-- group 4 depends on group 2 through group 3 alone
leaning : map (λ (n : ℕ). leans_on (group n) (group 2)) (1 ∷ 2 ∷ 3 ∷ 4 ∷ []) ≡ false ∷ false ∷ true ∷ false ∷ []
unfolding outlined groups_made groups_fault entities_fault names_fault made_by copies request_entities needs_of circles_of part_takes in_order depends
leaning = refl

third_leans : leans_on (group 3) (group 2) ≡ true
unfolding outlined groups_made groups_fault entities_fault names_fault made_by copies request_entities needs_of circles_of part_takes in_order depends
third_leans = refl

fourth_leans : leans_on (group 4) (group 3) ≡ true
unfolding outlined groups_made groups_fault entities_fault names_fault made_by copies request_entities needs_of circles_of part_takes in_order depends
fourth_leans = refl

either : {P : Type 0} (a b : Bool) → (a || b) ≡ true → (a ≡ true → P) → (b ≡ true → P) → P
either true b e f g = f refl
either false b e f g = g e

not_first : (a b c : Bool) → ((a && not b) && c) ≡ true → b ≡ false
not_first a false c e = refl
not_first true true c e = cc e
not_first false true c e = cc e

-- what depends on something isn't group 1
dirty_closed : IsClosed leans_on four_groups (group 2 ∷ group 3 ∷ group 4 ∷ [])
unfolding depends
dirty_closed g h there d l =
    let no = not_first (not (g.0 == h.0)) (g.0 == 1) (leans end_by_end end_outline.entities g h) d in
    either (g.0 == 1) (is_listed (group 2 ∷ group 3 ∷ group 4 ∷ []) g) there (λ yes. cc (yes, no)) (λ others. others)

listed_by : (gs : List GroupId) (g : GroupId) (n : ℕ) → (g.0 == n) ≡ true → is_listed gs (group n) ≡ true → is_listed gs g ≡ true
listed_by gs g n e l = subst (λ (k : ℕ). is_listed gs (group k) ≡ true) (sym (eqb-true g.0 n e)) l

dirty_least : (gs : List GroupId) → is_listed gs (group 2) ≡ true → IsClosed leans_on four_groups gs → (g : GroupId) → is_listed (group 2 ∷ group 3 ∷ group 4 ∷ []) g ≡ true → is_listed gs g ≡ true
dirty_least gs second closed g l =
    let third = closed (group 3) (group 2) refl third_leans second in
    let fourth = closed (group 4) (group 3) refl fourth_leans third in
    either (g.0 == 2) (is_listed (group 3 ∷ group 4 ∷ []) g) l (λ e. listed_by gs g 2 e second) (λ more.
    either (g.0 == 3) (is_listed (group 4 ∷ []) g) more (λ e. listed_by gs g 3 e third) (λ last.
    either (g.0 == 4) false last (λ e. listed_by gs g 4 e fourth) (λ e. cc e)))

dirty_by_second : IsDirtySet leans_on four_groups (group 2) (group 2 ∷ group 3 ∷ group 4 ∷ [])
dirty_by_second = record { in_order = refl; has = refl; closed = dirty_closed; least = dirty_least }

-- ---- what an outline has

-- a group by lines names three; where it isn't by lines its entity B isn't looked at
three_named : HasNamed end_outline.entities (by_lines end line 7) → false ≡ true
unfolding outlined groups_made groups_fault entities_fault names_fault made_by copies request_entities needs_of circles_of part_takes in_order
three_named h = (h.1 refl).1

origin_named : HasNamed end_outline.entities (third Plane 0 end 7)
unfolding outlined groups_made groups_fault entities_fault names_fault made_by copies request_entities needs_of circles_of part_takes in_order
origin_named = (refl, λ e. cc e)

-- what is named has to fit
fits_as_named : HasNamed end_outline.entities (third Plane 0 line 0) → false ≡ true
unfolding outlined groups_made groups_fault entities_fault names_fault made_by copies request_entities needs_of circles_of part_takes in_order
fits_as_named h = h.0

-- no workplane is none that is missing
no_workplane : HasNamed end_outline.entities (third Extrude 2 7 0)
no_workplane e = absurd (e refl)

workplane_named : HasNamed end_outline.entities (third Extrude 2 7 point) → false ≡ true
unfolding outlined groups_made groups_fault entities_fault names_fault made_by copies request_entities needs_of circles_of part_takes in_order
workplane_named h = h (λ e. cc e)
