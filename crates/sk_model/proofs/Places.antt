-- Things that are changed at their place.
use Rattle.std.proofs.Common.{◌≡◌, inl, inr, ℕ, suc, ◌+◌, List, [], ◌∷◌, map, nat_eq, Some, set, get_or, refl, ap, sym, ◌∙◌, arith}
use Rattle.std.specs.Prelude.{ℤ}
use Rattle.std.specs.List.{position, position_or_len}
use Rattle.sk_types.specs.declared.entity.ParamValue.{ParamValue}
use Rattle.sk_types.specs.declared.group.Group.{Group}
use Rattle.sk_types.specs.declared.group.RemapEntry.{RemapEntry}
use Rattle.sk_text.specs.Lines.{TextLine}
use Rattle.sk_types.specs.Lookups.{value_handle}
use Rattle.sk_records.specs.declared.kinds.Kind.TheVariants as kind
use Rattle.sk_records.specs.Rows.{with_map}
use Rattle.sk_records.specs.Blocks.{Block, on_record}
use Rattle.sk_records.specs.Given.{given_list, list_row}
use Rattle.sk_model.specs.Typed.{group_handle}
use Rattle.sk_model.specs.Changes.{with_first, with_param, with_remap, list_lines, remap_set}
use Rattle.sk_model.specs.WrittenLines.{IsListText}
use Rattle.std.proofs.lemmas.Bool.{cases_Bool}
use Rattle.sk_model.specs.TypingLaws.Lookups.{place_is, value_found}
use Rattle.sk_model.specs.TypingLaws.ParamSet.{stands_first}

one_more : (k : ℕ) → 1 + k ≡ suc k
one_more k = omega arith

set_placed : {T : Type 0} (handle : T → ℕ) (id : ℕ) (g : T → T) (d : T) (xs : List T) → set xs (position_or_len (nat_eq id) (map handle xs)) (g (get_or xs (position_or_len (nat_eq id) (map handle xs)) d)) ≡ with_first handle id g xs
set_placed handle id g d [] = refl
set_placed handle id g d (x ∷ xs) = elim (cases_Bool (nat_eq id (handle x))) [
  | inl e ↦ rw e refl
  | inr e ↦ rw (e, one_more (position_or_len (nat_eq id) (map handle xs))) (ap (λ l. x ∷ l) (set_placed handle id g d xs))
]

pub set_first : {T : Type 0} (handle : T → ℕ) (id i : ℕ) (g : T → T) (d : T) (xs : List T) → position (nat_eq id) (map handle xs) ≡ Some i → set xs i (g (get_or xs i d)) ≡ with_first handle id g xs
set_first handle id i g d xs at =
    ap (λ (k : ℕ). set xs k (g (get_or xs k d))) (sym (place_is _ _ i at)) ∙ set_placed handle id g d xs

-- the value at a parameter's place
pub value_placed : {s : ℕ} (id i : ℕ) (v : ℤ) (x d : ParamValue s) (ps : List (ParamValue s)) → position (nat_eq id) (map value_handle ps) ≡ Some i → x ≡ get_or ps i d → set ps i (record x { value = v }) ≡ with_param id v ps
value_placed {s} id i v x d ps at is =
    ap (λ (y : ParamValue s). set ps i (record y { value = v })) is
    ∙ set_first value_handle id i (λ (p : ParamValue s). record p { value = v }) d ps at
    ∙ stands_first id v (get_or ps i d).value ps (sym (value_found id i d ps (map value_handle ps) refl at))

-- ---- a list at a group's place

pub group_placed : {s : ℕ} (id i : ℕ) (list items : List RemapEntry) (x d : Group s) (gs : List (Group s)) → position (nat_eq id) (map group_handle gs) ≡ Some i → x ≡ get_or gs i d → items ≡ list → set gs i (record x { remap = items }) ≡ with_remap id list gs
group_placed {s} id i list items x d gs at is same =
    ap (λ (l : List RemapEntry). set gs i (record x { remap = l })) same
    ∙ ap (λ (y : Group s). set gs i (record y { remap = list })) is
    ∙ set_first group_handle id i (λ (g : Group s). record g { remap = list }) d gs at

pub list_placed : {s : ℕ} (id i : ℕ) (list : List RemapEntry) (gs : List (Group s)) (text lines : List ℕ) (bs cs : List Block) → position (nat_eq id) (map group_handle gs) ≡ Some i → IsListText list text → lines ≡ text →
    cs ≡ on_record kind.Group i (with_map (given_list lines)) bs → cs ≡ remap_set id list gs bs
unfolding remap_set
list_placed {s} id i list gs text lines bs cs at is same e =
    e ∙ ap (λ (l : List ℕ). on_record kind.Group i (with_map (given_list l)) bs) same
    ∙ ap (λ (l : List TextLine). on_record kind.Group i (with_map (map list_row l)) bs) is.same
    ∙ ap (λ (k : ℕ). on_record kind.Group k (with_map (map list_row (list_lines list))) bs) (sym (place_is _ _ i at))
