-- Lines with the same values are typed the same.
use Rattle.std.proofs.Common.{◌≡◌, ℕ, List, [], ◌∷◌, map, Bool, Ok, refl, ap, sym}
use Rattle.std.specs.Prelude.{ℤ, pos, ◌^◌}
use Rattle.sk_num.specs.Spelling.{handle_of, whole_of, quantity_of}
use Rattle.sk_types.specs.declared.entity.ParamValue.{ParamValue}
use Rattle.sk_types.specs.declared.request.Request.{Request}
use Rattle.sk_types.specs.declared.constraint.Constraint.{Constraint}
use Rattle.sk_types.specs.declared.group.Group.{Group}
use Rattle.sk_records.specs.Rows.{Row, last_value}
use Rattle.sk_model.specs.declared.keys.Key.{Key}
use Rattle.sk_model.specs.declared.keys.Key.TheVariants as key
use Rattle.sk_model.specs.Keys.{key_bytes}
use Rattle.sk_model.specs.Fields.{handle_under, whole_under, quantity_under, flag_under, text_under}
use Rattle.sk_model.specs.Params.{param_of}
use Rattle.sk_model.specs.Requests.{request_of}
use Rattle.sk_model.specs.Constraints.{constraint_of}
use Rattle.sk_model.specs.declared.group_keys.GroupKeys.{GroupKeys}
use Rattle.sk_model.specs.declared.remap.EntryNumbers.{EntryNumbers}
use Rattle.sk_types.specs.declared.group.RemapEntry.{RemapEntry}
use Rattle.sk_records.specs.MapRows.{EntryLine, entry_lines}
use Rattle.sk_model.specs.Groups.{group_keys, group_of, group_with, accepted_kind, copies_of, part_of, part_name}
use Rattle.sk_model.specs.Remap.{entry_numbers, all_numbers, remap_of, first_word, after_word}
use Rattle.sk_model.specs.TypingLaws.Chains.{then_same, then_parts, at_alike, ok_inj, read_alike}

-- the same value under every key that is read
abbrev pub AreAlike : List Row → List Row → Type 0
AreAlike rows other = (k : Key) → last_value (key_bytes k) other ≡ last_value (key_bytes k) rows

module _ (rows other : List Row) (same : AreAlike rows other) where
  pub handle_alike : (k : Key) (x : ℕ) → handle_under k rows ≡ Ok x → handle_under k other ≡ Ok x
  unfolding handle_under
  handle_alike k x e = read_alike handle_of 0 x (key_bytes k) rows other (same k) e

  pub whole_alike : (k : Key) (x : ℤ) → whole_under k rows ≡ Ok x → whole_under k other ≡ Ok x
  unfolding whole_under
  whole_alike k x e = read_alike whole_of (pos 0) x (key_bytes k) rows other (same k) e

  pub quantity_alike : (s : ℕ) (absent : ℤ) (k : Key) (x : ℤ) → quantity_under s absent k rows ≡ Ok x → quantity_under s absent k other ≡ Ok x
  unfolding quantity_under
  quantity_alike s absent k x e = read_alike (quantity_of s) absent x (key_bytes k) rows other (same k) e

  pub flag_alike : (k : Key) (x : Bool) → flag_under k rows ≡ Ok x → flag_under k other ≡ Ok x
  unfolding flag_under
  flag_alike k x e = then_same _ _ _ _ x (whole_alike k) (λ z f. f) e

  pub text_alike : (k : Key) → text_under k other ≡ text_under k rows
  unfolding text_under
  text_alike k = rw (same k) refl

  pub param_alike : (s : ℕ) (seen : List ℕ) (p : ParamValue s) → param_of s seen rows ≡ Ok p → param_of s seen other ≡ Ok p
  unfolding param_of
  param_alike s seen p e =
      then_same _ _ _ _ p (handle_alike key.ParamHandle) (λ id.
      then_same _ _ _ _ p (quantity_alike s (pos 0) key.ParamValue) (λ value f. f)) e

  pub request_alike : (seen : List ℕ) (r : Request) → request_of seen rows ≡ Ok r → request_of seen other ≡ Ok r
  unfolding request_of
  request_alike seen r e =
      then_same _ _ _ _ r (handle_alike key.RequestHandle) (λ id.
      then_same _ _ _ _ r (whole_alike key.RequestType) (λ kind.
      then_same _ _ _ _ r (handle_alike key.RequestWorkplane) (λ workplane.
      then_same _ _ _ _ r (handle_alike key.RequestGroup) (λ group.
      then_same _ _ _ _ r (flag_alike key.RequestConstruction) (λ construction.
      then_same _ _ _ _ r (whole_alike key.RequestExtraPoints) (λ extra f. f)))))) e

  pub constraint_alike : (s : ℕ) (seen : List ℕ) (c : Constraint s) → constraint_of s seen rows ≡ Ok c → constraint_of s seen other ≡ Ok c
  unfolding constraint_of
  constraint_alike s seen r e =
      then_same _ _ _ _ r (handle_alike key.ConstraintHandle) (λ id.
      then_same _ _ _ _ r (whole_alike key.ConstraintType) (λ kind.
      then_same _ _ _ _ r (handle_alike key.ConstraintGroup) (λ group.
      then_same _ _ _ _ r (handle_alike key.ConstraintWorkplane) (λ workplane.
      then_same _ _ _ _ r (quantity_alike s (pos 0) key.ConstraintValue) (λ value.
      then_same _ _ _ _ r (handle_alike key.ConstraintPointA) (λ p.
      then_same _ _ _ _ r (handle_alike key.ConstraintPointB) (λ q.
      then_same _ _ _ _ r (handle_alike key.ConstraintEntityA) (λ a.
      then_same _ _ _ _ r (handle_alike key.ConstraintEntityB) (λ b.
      then_same _ _ _ _ r (handle_alike key.ConstraintEntityC) (λ c.
      then_same _ _ _ _ r (handle_alike key.ConstraintEntityD) (λ d.
      then_same _ _ _ _ r (flag_alike key.ConstraintOther) (λ other1.
      then_same _ _ _ _ r (flag_alike key.ConstraintOther2) (λ other2.
      then_same _ _ _ _ r (flag_alike key.ConstraintReference) (λ reference f. f)))))))))))))) e

  pub keys_alike : (s : ℕ) (k : GroupKeys s) → group_keys s rows ≡ Ok k → group_keys s other ≡ Ok k
  unfolding group_keys
  keys_alike s k e =
      then_same _ _ _ _ k (handle_alike key.GroupHandle) (λ id.
      then_same _ _ _ _ k (whole_alike key.GroupType) (λ kind.
      then_same _ _ _ _ k (whole_alike key.GroupOrder) (λ order.
      then_same _ _ _ _ k (handle_alike key.GroupActive) (λ active.
      then_same _ _ _ _ k (handle_alike key.GroupSource) (λ source.
      then_same _ _ _ _ k (quantity_alike s (pos 0) key.GroupValue) (λ value.
      then_same _ _ _ _ k (whole_alike key.GroupSubtype) (λ subtype.
      then_same _ _ _ _ k (flag_alike key.GroupSkipFirst) (λ skip_first.
      then_same _ _ _ _ k (quantity_alike s (pos 0) key.GroupW) (λ w.
      then_same _ _ _ _ k (quantity_alike s (pos 0) key.GroupX) (λ x.
      then_same _ _ _ _ k (quantity_alike s (pos 0) key.GroupY) (λ y.
      then_same _ _ _ _ k (quantity_alike s (pos 0) key.GroupZ) (λ z.
      then_same _ _ _ _ k (handle_alike key.GroupOrigin) (λ origin.
      then_same _ _ _ _ k (handle_alike key.GroupEntityB) (λ entity_b.
      then_same _ _ _ _ k (handle_alike key.GroupEntityC) (λ entity_c.
      then_same _ _ _ _ k (flag_alike key.GroupSwapUv) (λ swap_uv.
      then_same _ _ _ _ k (flag_alike key.GroupNegateU) (λ negate_u.
      then_same _ _ _ _ k (flag_alike key.GroupNegateV) (λ negate_v.
      then_same _ _ _ _ k (flag_alike key.GroupRelaxed) (λ relaxed.
      then_same _ _ _ _ k (flag_alike key.GroupAllReference) (λ all_reference.
      then_same _ _ _ _ k (quantity_alike s (pos (2 ^ s)) key.GroupScale) (λ scale f. f))))))))))))))))))))) e

-- ---- groups

entry_alike : (l m : EntryLine) (x : EntryNumbers) → m.body ≡ l.body → entry_numbers l ≡ Ok x → entry_numbers m ≡ Ok x
unfolding entry_numbers
entry_alike l m x same e =
    rw same (then_same _ _ _ _ x (λ number. at_alike (whole_of (first_word l.body)) number l.line m.line) (λ number.
    then_same _ _ _ _ x (λ source. at_alike (handle_of (first_word (after_word l.body))) source l.line m.line) (λ source.
    then_same _ _ _ _ x (λ copy. at_alike (whole_of (first_word (after_word (after_word l.body)))) copy l.line m.line) (λ copy f. f))) e)

abbrev pub body_of : EntryLine → List ℕ
body_of l = l.body

numbers_alike : (ls ms : List EntryLine) (xs : List EntryNumbers) → map body_of ms ≡ map body_of ls → all_numbers ls ≡ Ok xs → all_numbers ms ≡ Ok xs
numbers_alike [] [] xs same e = e
numbers_alike [] (m ∷ ms) xs same e = cc
numbers_alike (l ∷ ls) [] xs same e = cc
numbers_alike (l ∷ ls) (m ∷ ms) xs same e =
    let here : m.body ≡ l.body = cc in
    let later : map body_of ms ≡ map body_of ls = cc in
    then_same _ _ _ _ xs (λ x. entry_alike l m x here) (λ x. then_same _ _ _ _ xs (λ ys. numbers_alike ls ms ys later) (λ ys f. f)) e

module _ (rows other : List Row) (same : AreAlike rows other) where
  name_alike : part_name other ≡ part_name rows
  name_alike = rw (text_alike rows other same key.GroupRelativeFile, text_alike rows other same key.GroupFile) refl

  pub group_alike : (s : ℕ) (seen : List ℕ) (g : Group s) → map body_of (entry_lines other) ≡ map body_of (entry_lines rows) → group_of s seen rows ≡ Ok g → group_of s seen other ≡ Ok g
  unfolding group_of
  group_alike s seen g bodies e =
      rw name_alike (then_same _ _ _ _ g (keys_alike rows other same s) (λ k.
      then_same _ _ _ _ g (λ xs. numbers_alike (entry_lines rows) (entry_lines other) xs bodies) (λ numbers f. f)) e)

  -- the list is another one
  pub group_relisted : (s : ℕ) (seen : List ℕ) (g : Group s) (numbers : List EntryNumbers) (list : List RemapEntry) → all_numbers (entry_lines other) ≡ Ok numbers → remap_of g.id.0 numbers ≡ Ok list →
      group_of s seen rows ≡ Ok g → group_of s seen other ≡ Ok (record g { remap = list })
  unfolding group_of
  group_relisted s seen g numbers list n r e =
      then_parts (group_keys s rows) _ g e (λ k ek e1.
      then_parts (all_numbers (entry_lines rows)) _ g e1 (λ xs exs e2.
      then_parts (accepted_kind seen k) _ g e2 (λ kind ekind e3.
      then_parts (copies_of s k.id kind k.value) _ g e3 (λ copies ecopies e4.
      then_parts (remap_of k.id xs) _ g e4 (λ remap eremap e5.
      then_parts (part_of k.id kind (part_name rows)) _ g e5 (λ part epart e6.
      (let is : group_with s k kind copies remap part ≡ g = ok_inj e6 in
      let id : g.id.0 ≡ k.id = ap (λ (x : Group s). x.id.0) (sym is) in
      rw (name_alike, keys_alike rows other same s k ek, n, ekind, ecopies, rw id at r, epart) (ap (λ (x : Group s). Ok (record x { remap = list })) is))))))))
