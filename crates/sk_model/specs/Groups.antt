-- A group, typed from its lines (SolveSpace's file format).
use Rattle.std.specs.Prelude.{ℕ, ◌^◌, ◌/◌, ◌||◌, ℤ, pos, negsuc, int_le, List, [], ◌∷◌, Bool, false, not, Result, Ok, if◌then◌else◌}
use Rattle.std.specs.Str.{is_utf8}
use Rattle.sk_text.specs.Lines.{is_empty}
use Rattle.sk_types.specs.declared.group.Group.{Group}
use Rattle.sk_types.specs.declared.group.GroupKind.{GroupKind}
use Rattle.sk_types.specs.declared.group.GroupKind.TheVariants.{Space, Plane, Extrude, Translate, Linked}
use Rattle.sk_types.specs.declared.group.RemapEntry.{RemapEntry}
use Rattle.sk_types.specs.declared.group_kind.TheConstants as group_kind
use Rattle.sk_types.specs.Standings.{group_standing}
use Rattle.sk_records.specs.Rows.{Row}
use Rattle.sk_records.specs.MapRows.{entry_lines}
use Rattle.sk_model.specs.declared.faults.ModelFault.{ModelFault}
use Rattle.sk_model.specs.declared.faults.ModelFault.TheVariants.{BadValue, DuplicateHandle, UnknownKind, LeftOut}
use Rattle.sk_model.specs.declared.faults.Reason.TheVariants as reason
use Rattle.sk_model.specs.declared.group_keys.GroupKeys.{GroupKeys}
use Rattle.sk_model.specs.declared.keys.Key.TheVariants as key
use Rattle.sk_model.specs.Chain.{then_of, refused, by_standing, is_out_of, seen_in}
use Rattle.sk_model.specs.Fields.{handle_under, whole_under, quantity_under, flag_under, text_under, is_number}
use Rattle.sk_model.specs.Remap.{all_numbers, remap_of}

-- the values in the order of the keys; an absent scale is 1
unfoldable pub group_keys : (s : ℕ) → List Row → Result (GroupKeys s) ModelFault
group_keys s rows =
    then_of (handle_under key.GroupHandle rows) (λ id.
    then_of (whole_under key.GroupType rows) (λ kind.
    then_of (whole_under key.GroupOrder rows) (λ order.
    then_of (handle_under key.GroupActive rows) (λ active.
    then_of (handle_under key.GroupSource rows) (λ source.
    then_of (quantity_under s (pos 0) key.GroupValue rows) (λ value.
    then_of (whole_under key.GroupSubtype rows) (λ subtype.
    then_of (flag_under key.GroupSkipFirst rows) (λ skip_first.
    then_of (quantity_under s (pos 0) key.GroupW rows) (λ w.
    then_of (quantity_under s (pos 0) key.GroupX rows) (λ x.
    then_of (quantity_under s (pos 0) key.GroupY rows) (λ y.
    then_of (quantity_under s (pos 0) key.GroupZ rows) (λ z.
    then_of (handle_under key.GroupOrigin rows) (λ origin.
    then_of (handle_under key.GroupEntityB rows) (λ entity_b.
    then_of (handle_under key.GroupEntityC rows) (λ entity_c.
    then_of (flag_under key.GroupSwapUv rows) (λ swap_uv.
    then_of (flag_under key.GroupNegateU rows) (λ negate_u.
    then_of (flag_under key.GroupNegateV rows) (λ negate_v.
    then_of (flag_under key.GroupRelaxed rows) (λ relaxed.
    then_of (flag_under key.GroupAllReference rows) (λ all_reference.
    then_of (quantity_under s (pos (2 ^ s)) key.GroupScale rows) (λ scale.
    Ok (record {
      id = id;
      kind = kind;
      order = order;
      active = active;
      source = source;
      value = value;
      subtype = subtype;
      skip_first = skip_first;
      quaternion = w ∷ x ∷ y ∷ z ∷ [];
      origin = origin;
      entity_b = entity_b;
      entity_c = entity_c;
      swap_uv = swap_uv;
      negate_u = negate_u;
      negate_v = negate_v;
      relaxed = relaxed;
      all_reference = all_reference;
      scale = scale;
    }))))))))))))))))))))))

-- `impFileRel`, or `impFile` where that is empty
abbrev pub part_name : List Row → List ℕ
part_name rows = if is_empty (text_under key.GroupRelativeFile rows) then text_under key.GroupFile rows else text_under key.GroupRelativeFile rows

-- what a group of an accepted number makes
abbrev pub kind_of : ℤ → GroupKind
kind_of n =
    if is_number group_kind.DRAWING_IN_SPACE n then Space else
    if is_number group_kind.DRAWING_IN_WORKPLANE n then Plane else
    if is_number group_kind.EXTRUSION n then Extrude else
    if is_number group_kind.TRANSLATION n then Translate else
    Linked

-- a drawing in a workplane is by quaternion or by line segments; copies go to one side or to both
abbrev pub lacks_subtype : GroupKind → ℤ → Bool
lacks_subtype Space n = false
lacks_subtype Plane n = not (is_number group_kind.BY_ORIGIN n || is_number group_kind.BY_LINE_SEGMENTS n)
lacks_subtype Extrude n = not (is_number group_kind.ONE_SIDED n || is_number group_kind.TWO_SIDED n)
lacks_subtype Translate n = not (is_number group_kind.ONE_SIDED n || is_number group_kind.TWO_SIDED n)
lacks_subtype Linked n = false

-- a linked part's scale has to be above 0
abbrev pub lacks_scale : GroupKind → ℤ → Bool
lacks_scale Space z = false
lacks_scale Plane z = false
lacks_scale Extrude z = false
lacks_scale Translate z = false
lacks_scale Linked z = int_le z (pos 0)

-- the handle and the kind, in the order of the refusals
unfoldable pub accepted_kind : {s : ℕ} → List ℕ → GroupKeys s → Result GroupKind ModelFault
accepted_kind seen k =
    refused (is_out_of 32767 k.id) (BadValue k.id) (
    refused (seen_in k.id seen) (DuplicateHandle k.id) (
    by_standing (group_standing k.kind) reason.Group k.id k.kind (
    refused (lacks_subtype (kind_of k.kind) k.subtype) (UnknownKind k.id k.subtype) (
    refused k.relaxed (LeftOut k.id reason.Relaxed) (
    refused k.all_reference (LeftOut k.id reason.ReferenceDims) (
    refused (lacks_scale (kind_of k.kind) k.scale) (LeftOut k.id reason.Scale) (
    Ok (kind_of k.kind))))))))

-- the whole part of a quantity, 0 for one below 0
abbrev pub whole_part : ℕ → ℤ → ℕ
whole_part s (pos n) = n / 2 ^ s
whole_part s (negsuc n) = 0

abbrev pub few_copies : ℕ → ℕ → Result ℕ ModelFault
few_copies id n = refused (is_out_of 999 n) (BadValue id) (Ok n)

-- how many copies a translation makes: 1 to 999; 0 in any other group
abbrev pub copies_of : ℕ → ℕ → GroupKind → ℤ → Result ℕ ModelFault
copies_of s id Space z = Ok 0
copies_of s id Plane z = Ok 0
copies_of s id Extrude z = Ok 0
copies_of s id Translate z = few_copies id (whole_part s z)
copies_of s id Linked z = Ok 0

abbrev pub named_part : ℕ → List ℕ → Result (List ℕ) ModelFault
named_part id name = refused (is_empty name || not (is_utf8 name)) (BadValue id) (Ok name)

-- a linked part has a name, in UTF-8; any other group has none
abbrev pub part_of : ℕ → GroupKind → List ℕ → Result (List ℕ) ModelFault
part_of id Space name = Ok []
part_of id Plane name = Ok []
part_of id Extrude name = Ok []
part_of id Translate name = Ok []
part_of id Linked name = named_part id name

abbrev pub is_two_sided : GroupKind → ℤ → Bool
is_two_sided Space n = false
is_two_sided Plane n = false
is_two_sided Extrude n = is_number group_kind.TWO_SIDED n
is_two_sided Translate n = is_number group_kind.TWO_SIDED n
is_two_sided Linked n = false

abbrev pub is_by_lines : GroupKind → ℤ → Bool
is_by_lines Space n = false
is_by_lines Plane n = is_number group_kind.BY_LINE_SEGMENTS n
is_by_lines Extrude n = false
is_by_lines Translate n = false
is_by_lines Linked n = false

abbrev pub group_with : (s : ℕ) → GroupKeys s → GroupKind → ℕ → List RemapEntry → List ℕ → Group s
group_with s k kind copies remap part = record {
  id = record { 0 = k.id };
  kind = kind;
  order = k.order;
  active = record { 0 = k.active };
  source = record { 0 = k.source };
  copies = copies;
  two_sided = is_two_sided kind k.subtype;
  skip_first = k.skip_first;
  by_lines = is_by_lines kind k.subtype;
  quaternion = k.quaternion;
  origin = record { 0 = k.origin };
  entity_b = record { 0 = k.entity_b };
  entity_c = record { 0 = k.entity_c };
  swap_uv = k.swap_uv;
  negate_u = k.negate_u;
  negate_v = k.negate_v;
  scale = k.scale;
  remap = remap;
  part = part;
}

-- a group over the handles of earlier groups, or its first fault
unfoldable pub group_of : (s : ℕ) → List ℕ → List Row → Result (Group s) ModelFault
group_of s seen rows =
    then_of (group_keys s rows) (λ k.
    then_of (all_numbers (entry_lines rows)) (λ numbers.
    then_of (accepted_kind seen k) (λ kind.
    then_of (copies_of s k.id kind k.value) (λ copies.
    then_of (remap_of k.id numbers) (λ remap.
    then_of (part_of k.id kind (part_name rows)) (λ part.
    Ok (group_with s k kind copies remap part)))))))
