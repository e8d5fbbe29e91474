-- The definitions on small inputs.
use Rattle.std.specs.Prelude.{◌≡◌, ℕ, ◌+◌, ℤ, pos, negsuc, List, [], ◌∷◌, map, Bool, true, false, Result, Ok, Err, refl}
use Rattle.sk_types.specs.declared.handle.EntityId.{EntityId}
use Rattle.sk_types.specs.declared.entity.Entity.{Entity}
use Rattle.sk_types.specs.declared.entity.Numbering.{Numbering}
use Rattle.sk_types.specs.declared.entity.Numbering.TheVariants.{Own, Moved, Copied, Placed, Nothing}
use Rattle.sk_types.specs.declared.group.Group.{Group}
use Rattle.sk_types.specs.declared.group.GroupKind.{GroupKind}
use Rattle.sk_types.specs.declared.group.GroupKind.TheVariants.{Plane, Extrude, Translate, Linked}
use Rattle.sk_types.specs.declared.group.RemapEntry.{RemapEntry}
use Rattle.sk_copy.specs.declared.fault.CopyFault.{CopyFault}
use Rattle.sk_copy.specs.declared.fault.CopyFault.TheVariants.{Full, PastLimit}
use Rattle.sk_copy.specs.Order.{in_order}
use Rattle.sk_copy.specs.Wanted.{moves_from}
use Rattle.sk_copy.specs.Copies.{Copies, copies, plane_entities}

abbrev at : ℕ → EntityId
at h = record { 0 = h }

-- ---- group 3, of group 2 or of a part

abbrev group_of : GroupKind → ℕ → Bool → Bool → ℤ → Group 36
group_of kind copies two_sided skip_first scale = record {
  id = record { 0 = 3 };
  kind = kind;
  order = pos 2;
  active = at 0;
  source = record { 0 = 2 };
  copies = copies;
  two_sided = two_sided;
  skip_first = skip_first;
  by_lines = false;
  quaternion = pos 1 ∷ pos 2 ∷ pos 3 ∷ pos 4 ∷ [];
  origin = at 262145;
  entity_b = at 65536;
  entity_c = at 0;
  swap_uv = false;
  negate_u = false;
  negate_v = false;
  scale = scale;
  remap = [];
  part = [];
}

abbrev extrusion : Group 36
extrusion = group_of Extrude 0 false false (pos 0)

-- ---- entities that are copied

abbrev entity_of : ℕ → ℕ → Bool → List ℕ → ℕ → Numbering 36 → Entity 36
entity_of id kind construction points normal numbers = record {
  id = at id;
  kind = kind;
  group = record { 0 = 2 };
  construction = construction;
  points = map at points;
  normal = at normal;
  distance = at 0;
  workplane = at 65536;
  numbers = numbers;
}

-- line 4 in the first workplane, for construction, and its two points
abbrev line : List (Entity 36)
line =
    entity_of 262144 11000 true (262145 ∷ 262146 ∷ []) 0 Nothing ∷
    entity_of 262145 2001 false [] 0 (Own (record { 0 = 262160 })) ∷
    entity_of 262146 2001 false [] 0 (Own (record { 0 = 262163 })) ∷ []

-- ---- what is made, told shortly: handle, kind, construction, points, normal, numbers

abbrev Told : Type 0
Told = ℕ × (ℕ × (Bool × (List ℕ × (ℕ × Numbering 36))))

abbrev handle : EntityId → ℕ
handle e = e.0

abbrev told : Entity 36 → Told
told e = (handle e.id, (e.kind, (e.construction, (map handle e.points, (handle e.normal, e.numbers)))))

abbrev entry_told : RemapEntry → ℕ × (ℕ × ℕ)
entry_told e = (e.number, (e.source.0, e.copy))

abbrev entities_told : Result (Copies 36) CopyFault → List Told
entities_told (Ok c) = map told c.entities
entities_told (Err f) = []

abbrev list_told : Result (Copies 36) CopyFault → List (ℕ × (ℕ × ℕ))
list_told (Ok c) = map entry_told c.list
list_told (Err f) = []

-- item i of the group
abbrev made : ℕ → ℕ
made i = 2147680256 + i

-- ---- an extrusion of the line

-- the faces at the ends have the numbers 1 and 2; the line has 3 and 4, and its face 5; its points have 6, 7, 8 and 9, 10, 11
numbers_of_a_line : list_told (copies extrusion [] line) ≡
    (1, (0, 1001)) ∷ (2, (0, 1002)) ∷
    (3, (262144, 1001)) ∷ (4, (262144, 1002)) ∷ (5, (262144, 1004)) ∷
    (6, (262145, 1001)) ∷ (7, (262145, 1002)) ∷ (8, (262145, 1003)) ∷
    (9, (262146, 1001)) ∷ (10, (262146, 1002)) ∷ (11, (262146, 1003)) ∷ []
unfolding copies
numbers_of_a_line = refl

-- the top stands two times the vector away; the faces aren't for construction, though the line is; the faces at the ends have
-- the normal of the group's workplane and go through the copies of the first point
entities_of_a_line : entities_told (copies extrusion [] line) ≡
    (made 1, (5000, (false, (made 6 ∷ [], (65568, Nothing))))) ∷
    (made 2, (5000, (false, (made 7 ∷ [], (65568, Nothing))))) ∷
    (made 3, (11000, (true, (made 6 ∷ made 9 ∷ [], (0, Nothing))))) ∷
    (made 4, (11000, (true, (made 7 ∷ made 10 ∷ [], (0, Nothing))))) ∷
    (made 5, (5001, (false, (made 6 ∷ made 9 ∷ [], (0, Nothing))))) ∷
    (made 6, (2010, (false, ([], (0, Moved (at 262145) (pos 2)))))) ∷
    (made 7, (2010, (false, ([], (0, Moved (at 262145) (pos 0)))))) ∷
    (made 8, (11000, (false, (made 6 ∷ made 7 ∷ [], (0, Nothing))))) ∷
    (made 9, (2010, (false, ([], (0, Moved (at 262146) (pos 2)))))) ∷
    (made 10, (2010, (false, ([], (0, Moved (at 262146) (pos 0)))))) ∷
    (made 11, (11000, (false, (made 9 ∷ made 10 ∷ [], (0, Nothing))))) ∷ []
unfolding copies in_order
entities_of_a_line = refl

-- a list that is there keeps its entries, whose copies then have those numbers; new ones go on from the greatest
abbrev stored : List RemapEntry
stored = record { number = 7; source = at 262145; copy = 1002 } ∷ record { number = 3; source = at 9; copy = 5 } ∷ []

abbrev point : List (Entity 36)
point = entity_of 262145 2000 true [] 0 (Own (record { 0 = 262160 })) ∷ []

numbers_behind_others : list_told (copies extrusion stored point) ≡
    (7, (262145, 1002)) ∷ (3, (9, 5)) ∷ (8, (0, 1001)) ∷ (9, (0, 1002)) ∷ (10, (262145, 1001)) ∷ (11, (262145, 1003)) ∷ []
unfolding copies
numbers_behind_others = refl

-- both ways; in rising handle order; the line between a point's copies is for construction as the point is
entities_behind_others : entities_told (copies (group_of Extrude 0 true false (pos 0)) stored point) ≡
    (made 7, (2010, (true, ([], (0, Moved (at 262145) (negsuc 0)))))) ∷
    (made 8, (5000, (false, (made 10 ∷ [], (65568, Nothing))))) ∷
    (made 9, (5000, (false, (made 7 ∷ [], (65568, Nothing))))) ∷
    (made 10, (2010, (true, ([], (0, Moved (at 262145) (pos 1)))))) ∷
    (made 11, (11000, (true, (made 10 ∷ made 7 ∷ [], (0, Nothing))))) ∷ []
unfolding copies in_order
entities_behind_others = refl

-- a list with the number 65535 is full, but where nothing is lacking
abbrev at_the_end : List RemapEntry
at_the_end = record { number = 65535; source = at 262144; copy = 0 } ∷ []

full_list : copies extrusion at_the_end line ≡ Err Full
unfolding copies
full_list = refl

-- ---- translations

-- three copies: one way, both ways, and one way without the one in the source's place
one_way : moves_from 0 false 3 ≡ (0, pos 0) ∷ (1, pos 2) ∷ (1000, pos 4) ∷ []
one_way = refl

both_ways : moves_from 0 true 3 ≡ (0, negsuc 1) ∷ (1, pos 0) ∷ (1000, pos 2) ∷ []
both_ways = refl

not_in_place : moves_from 1 false 3 ≡ (1, pos 2) ∷ (2, pos 4) ∷ (1000, pos 6) ∷ []
not_in_place = refl

-- of a point; both ways nothing is left out
one_way_of_a_point : entities_told (copies (group_of Translate 3 false false (pos 0)) [] point) ≡
    (made 1, (2010, (true, ([], (0, Moved (at 262145) (pos 0)))))) ∷
    (made 2, (2010, (true, ([], (0, Moved (at 262145) (pos 2)))))) ∷
    (made 3, (2010, (true, ([], (0, Moved (at 262145) (pos 4)))))) ∷ []
unfolding copies in_order
one_way_of_a_point = refl

both_ways_of_a_point : entities_told (copies (group_of Translate 3 true true (pos 0)) [] point) ≡
    (made 1, (2010, (true, ([], (0, Moved (at 262145) (negsuc 1)))))) ∷
    (made 2, (2010, (true, ([], (0, Moved (at 262145) (pos 0)))))) ∷
    (made 3, (2010, (true, ([], (0, Moved (at 262145) (pos 2)))))) ∷ []
unfolding copies in_order
both_ways_of_a_point = refl

without_the_first : list_told (copies (group_of Translate 3 false true (pos 0)) [] point) ≡ (1, (262145, 1)) ∷ (2, (262145, 2)) ∷ (3, (262145, 1000)) ∷ []
unfolding copies
without_the_first = refl

-- one copy of what an extrusion made: its faces go through the copies of their first points, workplanes aren't copied
abbrev extruded : List (Entity 36)
extruded =
    entity_of 65536 10000 false (65537 ∷ []) 65568 Nothing ∷
    entity_of 262145 2001 false [] 0 (Own (record { 0 = 262160 })) ∷
    entity_of 262176 3000 false [] 0 (Own (record { 0 = 262192 })) ∷
    entity_of 2147614721 5000 false (262145 ∷ []) 65568 Nothing ∷
    entity_of 2147614725 5001 false (262145 ∷ 262146 ∷ []) 0 Nothing ∷
    entity_of 2147614728 12000 true (262145 ∷ 262145 ∷ 262145 ∷ 262145 ∷ []) 0 Nothing ∷ []

faces_translated : entities_told (copies (group_of Translate 1 false false (pos 0)) [] extruded) ≡
    (made 1, (2010, (false, ([], (0, Moved (at 262145) (pos 0)))))) ∷
    (made 2, (3010, (false, ([], (0, Copied (at 262176)))))) ∷
    (made 3, (5003, (false, (made 1 ∷ [], (0, Copied (at 2147614721)))))) ∷
    (made 4, (5003, (false, (made 1 ∷ [], (0, Copied (at 2147614725)))))) ∷
    (made 5, (12000, (true, (made 1 ∷ made 1 ∷ made 1 ∷ made 1 ∷ [], (0, Nothing))))) ∷ []
unfolding copies in_order
faces_translated = refl

-- an extrusion copies neither faces nor workplanes
faces_extruded : list_told (copies extrusion [] extruded) ≡
    (1, (0, 1001)) ∷ (2, (0, 1002)) ∷ (3, (262145, 1001)) ∷ (4, (262145, 1002)) ∷ (5, (262145, 1003)) ∷
    (6, (262176, 1001)) ∷ (7, (262176, 1002)) ∷ (8, (2147614728, 1001)) ∷ (9, (2147614728, 1002)) ∷ []
unfolding copies
faces_extruded = refl

-- ---- linked parts

abbrev placed : ℤ → ℤ → ℤ → ℤ → Numbering 36
placed x y z w = Placed (x ∷ y ∷ z ∷ w ∷ [])

-- points are scaled, to the nearest unit, and normals aren't; a curve is passed over where what it names isn't there, and so is
-- a workplane; a curve keeps all that it names, and a point none
abbrev part : List (Entity 36)
part =
    entity_of 0 2010 true (5 ∷ []) 0 (placed (pos 1) (pos 2) (pos 3) (pos 0)) ∷
    entity_of 1 11000 true (2 ∷ 3 ∷ []) 5 Nothing ∷
    entity_of 2 2000 false [] 0 (placed (pos 5) (negsuc 4) (pos 0) (pos 0)) ∷
    entity_of 3 2001 false [] 0 (placed (pos 0) (pos 0) (pos 0) (pos 0)) ∷
    entity_of 4 11000 false (2 ∷ 9 ∷ []) 0 Nothing ∷
    entity_of 5 3000 false [] 0 (placed (pos 1) (pos 2) (pos 3) (pos 4)) ∷
    entity_of 6 10000 false (2 ∷ []) 5 Nothing ∷
    entity_of 7 12000 false (2 ∷ 3 ∷ 2 ∷ 3 ∷ []) 0 Nothing ∷ []

-- at half the size
linked_told : entities_told (copies (group_of Linked 0 false false (pos 34359738368)) [] part) ≡
    (made 1, (2011, (true, ([], (0, placed (pos 1) (pos 1) (pos 2) (pos 0)))))) ∷
    (made 2, (11000, (true, (made 3 ∷ made 4 ∷ [], (made 5, Nothing))))) ∷
    (made 3, (2011, (false, ([], (0, placed (pos 3) (negsuc 2) (pos 0) (pos 0)))))) ∷
    (made 4, (2011, (false, ([], (0, placed (pos 0) (pos 0) (pos 0) (pos 0)))))) ∷
    (made 5, (3011, (false, ([], (0, placed (pos 1) (pos 2) (pos 3) (pos 4)))))) ∷ []
unfolding copies in_order
linked_told = refl

linked_list : list_told (copies (group_of Linked 0 false false (pos 34359738368)) [] part) ≡ (1, (0, 0)) ∷ (2, (1, 0)) ∷ (3, (2, 0)) ∷ (4, (3, 0)) ∷ (5, (5, 0)) ∷ []
unfolding copies
linked_list = refl

-- a scaled number past 2^62 units; first the list may be full
abbrev far : List (Entity 36)
far = entity_of 2 2000 false [] 0 (placed (pos 4611686018427387904) (pos 0) (pos 0) (pos 0)) ∷ []

past_limit : copies (group_of Linked 0 false false (pos 68719476737)) [] far ≡ Err PastLimit
unfolding copies
past_limit = refl

full_before : copies (group_of Linked 0 false false (pos 68719476737)) at_the_end far ≡ Err Full
unfolding copies
full_before = refl

-- ---- a drawing in a workplane

plane : map told (plane_entities (group_of Plane 0 false false (pos 0))) ≡
    (made 0, (10000, (false, (made 2 ∷ [], (made 1, Nothing))))) ∷
    (made 1, (3010, (false, ([], (0, placed (pos 1) (pos 2) (pos 3) (pos 4)))))) ∷
    (made 2, (2012, (false, ([], (0, Copied (at 262145)))))) ∷ []
plane = refl

plane_by_lines : map told (plane_entities (record (group_of Plane 0 false false (pos 0)) { by_lines = true })) ≡
    (made 0, (10000, (false, (made 2 ∷ [], (made 1, Nothing))))) ∷
    (made 1, (3010, (false, ([], (0, Nothing))))) ∷
    (made 2, (2012, (false, ([], (0, Copied (at 262145)))))) ∷ []
plane_by_lines = refl
