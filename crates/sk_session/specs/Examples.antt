-- How small models are opened, at the scale 36.
use Rattle.std.specs.Prelude.{◌≡◌, refl, ℕ, ◌^◌, ℤ, pos, negsuc, List, [], ◌∷◌, map, false, Err}
use Rattle.sk_types.specs.declared.entity.Outline.{Outline}
use Rattle.sk_types.specs.declared.group.Group.{Group}
use Rattle.sk_types.specs.declared.group.GroupKind.{GroupKind}
use Rattle.sk_types.specs.declared.group.GroupKind.TheVariants.{Space, Plane, Linked}
use Rattle.sk_types.specs.declared.handle.EntityId.{EntityId}
use Rattle.sk_types.specs.declared.handle.GroupId.{GroupId}
use Rattle.sk_types.specs.declared.request.Request.{Request}
use Rattle.sk_records.specs.declared.faults.ReadFault.TheVariants.{BadHeader}
use Rattle.sk_model.specs.declared.faults.ModelFault.TheVariants.{NoSuch}
use Rattle.sk_model.specs.Models.{Modelled}
use Rattle.sk_copy.specs.Order.{in_order}
use Rattle.sk_chain.specs.Outlines.{groups_fault, outlined}
use Rattle.sk_session.specs.declared.fault.TextFault.TheVariants.{Unread}
use Rattle.sk_session.specs.Opening.{linked_groups, model_of, opened_over, regenerated_all}

abbrev none : EntityId
none = record { 0 = 0 }

-- a group whose part, if it has one, has this name
abbrev group : ℕ → ℤ → GroupKind → List ℕ → Group 36
group id order kind part = record {
  id = record { 0 = id };
  kind = kind;
  order = order;
  active = none;
  source = record { 0 = 0 };
  copies = 0;
  two_sided = false;
  skip_first = false;
  by_lines = false;
  quaternion = pos 1 ∷ pos 0 ∷ pos 0 ∷ pos 0 ∷ [];
  origin = none;
  entity_b = none;
  entity_c = none;
  swap_uv = false;
  negate_u = false;
  negate_v = false;
  scale = pos (2 ^ 36);
  remap = [];
  part = part;
}

abbrev handles : List GroupId → List ℕ
handles gs = map (λ (g : GroupId). g.0) gs

abbrev told : Group 36 → ℕ × List ℕ
told g = (g.id.0, g.part)

-- In group order, not in the file's: by the order, then by the handle. Groups 2 and 4 name the same part, and each is there.
linked_in_order : map told
    (linked_groups (group 4 (pos 7) Linked (98 ∷ []) ∷ group 1 (pos 0) Space [] ∷ group 3 (pos 1) Plane [] ∷ group 2 (pos 7) Linked (98 ∷ []) ∷ group 5 (negsuc 0) Linked (97 ∷ []) ∷ [])) ≡
    (5, 97 ∷ []) ∷ (2, 98 ∷ []) ∷ (4, 98 ∷ []) ∷ []
unfolding in_order
linked_in_order = refl

-- what isn't read isn't typed
no_header : model_of 36 [] ≡ Err (Unread BadHeader)
unfolding model_of
no_header = refl

-- the outline's fault is the session's
abbrev stray : Request
stray = record { id = record { 0 = 4 }; kind = 200; group = record { 0 = 2 }; workplane = none; construction = false; extra = 0 }

abbrev strayed : Modelled 36
strayed = record { blocks = []; lists = record { groups = group 1 (pos 0) Space [] ∷ []; params = []; requests = stray ∷ []; constraints = [] } }

not_opened : opened_over [] strayed ≡ Err (NoSuch 4 2)
unfolding opened_over outlined groups_fault in_order
not_opened = refl

-- all groups but the first are regenerated, in group order
abbrev ordered : Outline 36
ordered = record { order = record { 0 = 1 } ∷ record { 0 = 3 } ∷ record { 0 = 2 } ∷ []; entities = [] }

last_regenerated : handles (regenerated_all [] strayed (record { outline = ordered; lists = [] })).last ≡ 3 ∷ 2 ∷ []
unfolding regenerated_all
last_regenerated = refl
