-- What a model is after a remap list was set.
use Rattle.std.proofs.Common.{◌≡◌, inl, inr, ℕ, suc, ◌+◌, List, [], ◌∷◌, map, length, false, nat_eq, Ok, refl, sym, ap, ◌∙◌}
use Rattle.std.specs.Prelude.{if◌then◌else◌}
use Rattle.std.specs.List.{list_any, position_or_len, fold}
use Rattle.sk_types.specs.declared.group.Group.{Group}
use Rattle.sk_types.specs.declared.group.RemapEntry.{RemapEntry}
use Rattle.sk_types.specs.declared.request.Request.{Request}
use Rattle.sk_types.specs.declared.constraint.Constraint.{Constraint}
use Rattle.sk_text.specs.Lines.{TextLine}
use Rattle.sk_records.specs.declared.kinds.Kind.TheVariants as kind
use Rattle.sk_records.specs.Classes.{is_opening, is_shut}
use Rattle.sk_records.specs.Rows.{Row, with_map, is_plain_role}
use Rattle.sk_records.specs.MapRows.{entry_line, entry_lines}
use Rattle.sk_records.specs.Given.{list_role, list_row}
use Rattle.sk_records.specs.Blocks.{Block, records}
use Rattle.sk_records.specs.Laws.{NonePlain, records_law, lists_law}
use Rattle.sk_model.specs.Remap.{all_numbers, remap_of}
use Rattle.sk_model.specs.Groups.{group_of}
use Rattle.sk_model.specs.Typed.{Typed, typed, groups_of, group_handle, is_first_group, is_linked_kind, count_linked, whole_fault}
use Rattle.sk_model.specs.Changes.{with_remap, numbers_of, list_lines, remap_set}
use Rattle.std.proofs.lemmas.Bool.{cases_Bool}
use Rattle.sk_model.specs.TypingLaws.Alike.{group_relisted}
use Rattle.sk_model.specs.TypingLaws.ListSteps.{all_set}
use Rattle.sk_model.specs.TypingLaws.TypedParts.{parts_of, typed_parts}

not_plain : (body : List ℕ) → is_plain_role (list_role body) ≡ false
not_plain body = elim (cases_Bool (is_opening body)) [
  | inl e ↦ rw e refl
  | inr e ↦ rw e (elim (cases_Bool (is_shut body)) [ inl f ↦ rw f refl | inr f ↦ rw f refl ])
]

pub none_plain : (ls : List TextLine) → NonePlain (map list_row ls)
none_plain [] = tt
none_plain (l ∷ ls) = (not_plain l.body, none_plain ls)

-- ---- groups with another list

module _ (s id : ℕ) (list : List RemapEntry) where
  first_kept : (gs : List (Group s)) → list_any is_first_group (with_remap id list gs) ≡ list_any is_first_group gs
  first_kept [] = refl
  first_kept (g ∷ gs) = elim (cases_Bool (nat_eq id g.id.0)) [ inl e ↦ rw e refl | inr e ↦ rw e (rw (first_kept gs) refl) ]

  length_kept : (gs : List (Group s)) → length (with_remap id list gs) ≡ length gs
  length_kept [] = refl
  length_kept (g ∷ gs) = elim (cases_Bool (nat_eq id g.id.0)) [ inl e ↦ rw e refl | inr e ↦ rw e (ap suc (length_kept gs)) ]

  linked_from : (n : ℕ) (gs : List (Group s)) → fold (λ (m : ℕ) (x : Group s). m + (if is_linked_kind x.kind then 1 else 0)) n (with_remap id list gs) ≡ fold (λ (m : ℕ) (x : Group s). m + (if is_linked_kind x.kind then 1 else 0)) n gs
  linked_from n [] = refl
  linked_from n (g ∷ gs) = elim (cases_Bool (nat_eq id g.id.0)) [ inl e ↦ rw e refl | inr e ↦ rw e (linked_from (n + (if is_linked_kind g.kind then 1 else 0)) gs) ]

  linked_kept : (gs : List (Group s)) → count_linked (with_remap id list gs) ≡ count_linked gs
  linked_kept gs = linked_from 0 gs

  sound_kept : (gs : List (Group s)) (rs : List Request) (cs : List (Constraint s)) → whole_fault s (with_remap id list gs) rs cs ≡ whole_fault s gs rs cs
  unfolding whole_fault
  sound_kept gs rs cs = rw (first_kept gs, length_kept gs, linked_kept gs) refl

  pub handles_kept : (gs : List (Group s)) → map group_handle (with_remap id list gs) ≡ map group_handle gs
  handles_kept [] = refl
  handles_kept (g ∷ gs) = elim (cases_Bool (nat_eq id g.id.0)) [ inl e ↦ rw e refl | inr e ↦ rw e (ap (λ l. g.id.0 ∷ l) (handles_kept gs)) ]

  -- the law: a text in which a list is set is typed as the same model with that list set
  pub list_typed : (bs : List Block) (l : Typed s) → typed s bs ≡ Ok l → all_numbers (entry_lines (map list_row (list_lines list))) ≡ Ok (map numbers_of list) → remap_of id (map numbers_of list) ≡ Ok list →
      typed s (remap_set id list l.groups bs) ≡ Ok (record l { groups = with_remap id list l.groups })
  unfolding remap_set
  list_typed bs l e reads is_list =
      let is = parts_of s bs l e in
      let new : List Row = map list_row (list_lines list) in
      let place : ℕ = position_or_len (nat_eq id) (map group_handle l.groups) in
      let lift : (seen : List ℕ) (rows : List Row) (g : Group s) → g.id.0 ≡ id → group_of s seen rows ≡ Ok g → group_of s seen (with_map new rows) ≡ Ok (record g { remap = list }) =
      λ seen rows g here h. group_relisted rows (with_map new rows) (λ k. lists_law.value_map _ new rows (none_plain (list_lines list))) s seen g (map numbers_of list) list
      (ap (λ (x : List Row). all_numbers (map entry_line x)) (lists_law.entries_set new rows) ∙ reads) (rw (sym here) at is_list) h in
      typed_parts s _ (record l { groups = with_remap id list l.groups }) (record {
        groups = ap (groups_of s) (records_law.changed_same kind.Group place (with_map new) bs)
            ∙ all_set group_handle (group_of s) id (with_map new) (λ (g : Group s). record g { remap = list }) lift (λ g. refl) [] (records kind.Group bs) l.groups is.groups;
        params = rw (records_law.changed_other kind.Group kind.Param refl place (with_map new) bs) is.params;
        requests = rw (records_law.changed_other kind.Group kind.Request refl place (with_map new) bs) is.requests;
        constraints = rw (records_law.changed_other kind.Group kind.Constraint refl place (with_map new) bs) is.constraints;
        sound = sound_kept l.groups l.requests l.constraints ∙ is.sound;
      })
