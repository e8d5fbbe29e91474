-- The definitions on small inputs.
use Rattle.std.specs.Prelude.{◌≡◌, ℕ, ◌^◌, ◌*◌, pos, List, [], ◌∷◌, ◌++◌, map, false, Some, None, Ok, Err, codes, refl}
use Rattle.std.specs.List.{flat_map}
use Rattle.sk_types.specs.declared.handle.EntityId.{EntityId}
use Rattle.sk_types.specs.declared.handle.GroupId.{GroupId}
use Rattle.sk_types.specs.declared.entity.Entity.{Entity}
use Rattle.sk_types.specs.declared.entity.Numbering.{Numbering}
use Rattle.sk_types.specs.declared.entity.Numbering.TheVariants.{Placed, Nothing}
use Rattle.sk_types.specs.declared.group.Group.{Group}
use Rattle.sk_types.specs.declared.group.GroupKind.TheVariants.{Linked}
use Rattle.sk_records.specs.declared.faults.ReadFault.TheVariants.{BadHeader}
use Rattle.sk_records.specs.Classes.{class_of, closed_kind, value_kind, is_surface}
use Rattle.sk_records.specs.declared.rows.Role.TheVariants.{Plain}
use Rattle.sk_records.specs.Rows.{Row, added_row}
use Rattle.sk_text.specs.Lines.{end_len}
use Rattle.sk_num.specs.Spelling.{handle_of, quantity_of, whole_of}
use Rattle.sk_link.specs.declared.fault.PartFault.TheVariants.{PartAbsent, PartRead, PartText}
use Rattle.sk_link.specs.declared.fault.Refusal.TheVariants.{Number}
use Rattle.sk_link.specs.Fields.{handle_under, whole_under, quantity_under, flag_under}
use Rattle.sk_link.specs.Keys.{key_bytes}
use Rattle.sk_link.specs.Part.{counted, part_in}
use Rattle.sk_link.specs.Parts.{parts_in, parts_of}
use Rattle.sk_link.specs.Replies.{Broke, Gave}
use Rattle.sk_link.specs.Stored.{entity_keys, named_points, stored}

abbrev entity_of : ℕ → ℕ → List EntityId → Numbering 36 → Entity 36
entity_of id kind points numbers = record {
  id = record { 0 = id };
  kind = kind;
  group = record { 0 = 0 };
  construction = false;
  points = points;
  normal = record { 0 = 0 };
  distance = record { 0 = 0 };
  workplane = record { 0 = 0 };
  numbers = numbers;
}

abbrev id : ℕ → EntityId
id n = record { 0 = n }

-- ---- a record

abbrev rows : List (List ℕ) → List Row
rows lines = map (added_row Plain) lines

-- a point at (1,2,3), whose other numbers are read and not taken
point_stored : stored 36 (rows (codes "Entity.h.v=00040000" ∷ codes "Entity.type=2000" ∷ codes "Entity.actPoint.x=1.0" ∷ codes "Entity.actPoint.y=2" ∷ codes "Entity.actPoint.z=3.000" ∷ codes "Entity.actDistance=7" ∷ []))
    ≡ Ok (record { handle = 262144; entity = Some (entity_of 262144 2000 [] (Placed (pos (2 ^ 36) ∷ pos (2 * 2 ^ 36) ∷ pos (3 * 2 ^ 36) ∷ pos 0 ∷ []))) })
unfolding entity_keys handle_under whole_under quantity_under flag_under key_bytes handle_of whole_of quantity_of
point_stored = refl

-- an arc keeps its names in their places and has no numbers; what isn't named behind the last name is left out
arc_points : map named_points ((id 1 ∷ id 0 ∷ id 3 ∷ []) ∷ (id 1 ∷ id 2 ∷ id 0 ∷ []) ∷ (id 0 ∷ id 0 ∷ id 0 ∷ []) ∷ []) ≡ (id 1 ∷ id 0 ∷ id 3 ∷ []) ∷ (id 1 ∷ id 2 ∷ []) ∷ [] ∷ []
arc_points = refl

-- a number past 65535 is no entity's, and the handle 0 counts
number_past : stored 36 (rows (codes "Entity.type=65536" ∷ [])) ≡ Ok (record { handle = 0; entity = None })
unfolding entity_keys handle_under whole_under quantity_under flag_under key_bytes handle_of whole_of quantity_of
number_past = refl

-- the first key that doesn't read, in the order of the keys and not of the lines
first_key : stored 36 (record { number = Some 7; role = Plain; body = codes "Entity.actDistance=x"; ending = 10 ∷ [] } ∷ record { number = Some 8; role = Plain; body = codes "Entity.type=two"; ending = 10 ∷ [] } ∷ []) ≡ Err (Number 8)
unfolding entity_keys handle_under whole_under quantity_under flag_under key_bytes handle_of whole_of quantity_of
first_key = refl

-- ---- records that count

abbrev line : ℕ → Entity 36
line n = entity_of n 11000 [] Nothing

-- by rising handle, of those with one handle the last, also where the last is no entity
last_counts : counted (record { handle = 9; entity = Some (line 9) } ∷ record { handle = 0; entity = Some (line 0) } ∷ record { handle = 5; entity = Some (line 5) } ∷
    record { handle = 9; entity = Some (entity_of 9 13000 [] Nothing) } ∷ record { handle = 5; entity = None } ∷ []) ≡ line 0 ∷ entity_of 9 13000 [] Nothing ∷ []
last_counts = refl

-- ---- texts

abbrev text : List (List ℕ) → List ℕ
text lines = 177 ∷ 178 ∷ 179 ∷ codes "SolveSpaceREVa\n\n\n" ++ flat_map (λ (l : List ℕ). l ++ 10 ∷ []) lines

-- a part of the point at (1,2,3) alone
abbrev point_text : List ℕ
point_text = text (codes "Entity.h.v=00040000" ∷ codes "Entity.type=2000" ∷ codes "Entity.construction=0" ∷ codes "Entity.actPoint.x=1" ∷ codes "Entity.actPoint.y=2" ∷ codes "Entity.actPoint.z=3" ∷ codes "AddEntity" ∷ [])

abbrev point : Entity 36
point = entity_of 262144 2000 [] (Placed (pos (2 ^ 36) ∷ pos (2 * 2 ^ 36) ∷ pos (3 * 2 ^ 36) ∷ pos 0 ∷ []))

point_part : part_in 36 point_text ≡ Ok (point ∷ [])
unfolding part_in class_of closed_kind value_kind is_surface end_len entity_keys handle_under whole_under quantity_under flag_under key_bytes handle_of whole_of quantity_of
point_part = refl

-- ---- groups

abbrev group_of : ℕ → List ℕ → Group 36
group_of n part = record {
  id = record { 0 = n };
  kind = Linked;
  order = pos n;
  active = record { 0 = 0 };
  source = record { 0 = 0 };
  copies = 0;
  two_sided = false;
  skip_first = false;
  by_lines = false;
  quaternion = pos 0 ∷ pos 0 ∷ pos 0 ∷ pos 0 ∷ [];
  origin = record { 0 = 0 };
  entity_b = record { 0 = 0 };
  entity_c = record { 0 = 0 };
  swap_uv = false;
  negate_u = false;
  negate_v = false;
  scale = pos (2 ^ 36);
  remap = [];
  part = part;
}

abbrev group : ℕ → GroupId
group n = record { 0 = n }

-- a part that isn't held
missing_part : parts_in 36 [] (group_of 2 (codes "part.slvs") ∷ []) ≡ Err (PartAbsent (group 2))
missing_part = refl

-- the first group's fault comes first, whatever a later one's is
first_group : parts_in 36 ((codes "a", codes "no header") ∷ []) (group_of 4 (codes "a") ∷ group_of 2 (codes "b") ∷ []) ≡ Err (PartText (group 4) BadHeader)
unfolding part_in end_len
first_group = refl

-- two groups with one file have a read each
two_reads : parts_of 36 (group_of 2 (codes "a") ∷ group_of 3 (codes "a") ∷ []) (Gave (text []) ∷ Broke ∷ []) ≡ Err (PartRead (group 3))
unfolding part_in end_len class_of
two_reads = refl
