-- What a model's parts are after a change.
use Rattle.std.proofs.Common.{◌≡◌, ◌≢◌, ℕ, List, [], ◌∷◌, map, length, Some, Result, Ok, Err, true, refl, sym, ap, ◌∙◌, subst, ◌<◌, ◌^◌}
use Rattle.std.specs.Prelude.{ℤ, OnOk, OnErr, nat_eq, ◌==◌, if◌then◌else◌}
use Rattle.std.specs.List.{All, IsDistinct, position}
use Rattle.std.proofs.lemmas.List.{length-map}
use Rattle.std.proofs.lemmas.List.Elements.{All-nil, All-cons, All-filter}
use Rattle.sk_num.specs.Limit.{IsInLimit}
use Rattle.sk_num.specs.Scale.{IsScale}
use Rattle.sk_types.specs.declared.entity.ParamValue.{ParamValue}
use Rattle.sk_types.specs.declared.entity.Entity.{Entity}
use Rattle.sk_types.specs.declared.entity.Act.{Act}
use Rattle.sk_types.specs.declared.group.Group.{Group}
use Rattle.sk_types.specs.declared.group.RemapEntry.{RemapEntry}
use Rattle.sk_types.specs.Lookups.{value_handle, value_of}
use Rattle.sk_records.specs.declared.kinds.Kind.TheVariants as kind
use Rattle.sk_records.specs.Blocks.{Block, Rec, records, with_tails, made_anew}
use Rattle.sk_records.specs.Written.{bytes_of}
use Rattle.sk_records.specs.Given.{given_records}
use Rattle.sk_model.specs.Chain.{seen_in}
use Rattle.sk_model.specs.Groups.{group_of}
use Rattle.sk_model.specs.Typed.{Typed, typed, group_handle}
use Rattle.sk_model.specs.declared.remap.GroupList.{GroupList}
use Rattle.sk_model.specs.Changes.{with_param, with_params, params_set, with_remap, remap_set, grew, grown, list_handle, with_lists, lists_set}
use Rattle.sk_model.specs.EntityRecords.{entity_records}
use Rattle.sk_model.specs.Settable.{IsSettable, IsRemapList, IsGroupList, HasSources, IsWritable}
use Rattle.sk_model.specs.TypingLaws.{typing_law, set_lists_law}
use Rattle.sk_model.specs.TypingLaws.Lookups.{place_below}
use Rattle.sk_model.specs.TypingLaws.ListSteps.{all_length}
use Rattle.sk_model.specs.TypingLaws.TypedParts.{parts_of}
use Rattle.sk_model.specs.TypingLaws.ParamSet.{value_after}
use Rattle.sk_model.specs.TypingLaws.RemapSet.{handles_kept, list_typed}
use Rattle.sk_model.specs.TypingLaws.ManyLists.{list_written}
use Rattle.sk_model.specs.TypingLaws.EntityTexts.{all_entities, records_are}
use Rattle.sk_model.proofs.Outcomes.{on_ok}
use Rattle.sk_model.proofs.ListsSteps.{many_handles}

pub groups_handles : {s : ℕ} (id : ℕ) (list : List RemapEntry) (gs hs : List (Group s)) → hs ≡ with_remap id list gs → map group_handle hs ≡ map group_handle gs
groups_handles {s} id list gs hs e = ap (map group_handle) e ∙ handles_kept s id list gs

pub group_count : (s : ℕ) (bs : List Block) (l : Typed s) → typed s bs ≡ Ok l → length (records kind.Group bs) ≡ length l.groups
group_count s bs l e = all_length group_handle (group_of s) [] (records kind.Group bs) l.groups (parts_of s bs l e).groups

pub group_there : (s id i : ℕ) (bs : List Block) (l : Typed s) → typed s bs ≡ Ok l → position (nat_eq id) (map group_handle l.groups) ≡ Some i → i < length (records kind.Group bs)
group_there s id i bs l e at = subst (λ (k : ℕ). i < k) (length-map l.groups group_handle ∙ sym (group_count s bs l e)) (place_below _ _ _ i refl at)

pub values_after : {s : ℕ} {E : Type 0} (r : Result (Unit {0}) E) (id : ℕ) (v : ℤ) (ps qs : List (ParamValue s)) → OnOk r (qs ≡ with_param id v ps) → OnOk r ((q : ℕ) → value_of q qs ≡ (if q == id then Some v else value_of q ps))
values_after (Ok x) id v ps qs e = λ q. ap (value_of q) e ∙ value_after id q v ps
values_after (Err x) id v ps qs e = e

-- what may be set, from what is asked and what was read
pub all_settable : {s : ℕ} (qs : List (ParamValue s)) → All (λ (q : ParamValue s). q.id.0 ≢ 0) qs → All (λ (q : ParamValue s). q.id.0 < 2 ^ 32) qs → All (λ (q : ParamValue s). IsInLimit q.value) qs → All IsSettable qs
all_settable qs some handles values = λ k d l. record { some = some k d l; handle = handles k d l; value = values k d l }

pub one_distinct : (id : ℕ) → IsDistinct nat_eq (id ∷ [])
unfolding IsDistinct
one_distinct id = (tt, tt)

pub one_some : {s : ℕ} (q : ParamValue s) → q.id.0 ≢ 0 → All (λ (p : ParamValue s). p.id.0 ≢ 0) (q ∷ [])
one_some {s} q some = All-cons (λ (p : ParamValue s). p.id.0 ≢ 0) q [] some (All-nil (λ (p : ParamValue s). p.id.0 ≢ 0))

-- the blocks where entity records are made anew
pub anew_blocks : {s : ℕ} {E : Type 0} (r : Result (Unit {0}) E) (bs cs : List Block) → IsScale s → (acts : List (Act s)) (es : List (Entity s)) → All (IsWritable acts) es → (given text : List ℕ) → given ≡ text → text ≡ bytes_of (with_tails (entity_records acts es)) →
    OnOk r (cs ≡ made_anew kind.Entity (given_records given) bs) → OnOk r (cs ≡ made_anew kind.Entity (entity_records acts es) bs)
anew_blocks r bs cs scale acts es all given text lent is book =
    on_ok r (λ (e : cs ≡ made_anew kind.Entity (given_records given) bs). e ∙ ap (λ (rs : List Rec). made_anew kind.Entity rs bs) (ap given_records (lent ∙ is) ∙ records_are scale acts es all)) book

-- ---- what is typed

module _ {s : ℕ} {E : Type 0} (r : Result (Unit {0}) E) (bs cs : List Block) (l : Typed s) (e : typed s bs ≡ Ok l) where
  pub list_typed_after : (id : ℕ) (list : List RemapEntry) (hs : List (Group s)) → IsRemapList id list → OnOk r (HasSources list) →
      OnOk r (cs ≡ remap_set id list l.groups bs) → OnErr r (cs ≡ bs) → OnOk r (hs ≡ with_remap id list l.groups) → OnErr r (hs ≡ l.groups) → typed s cs ≡ Ok (record l { groups = hs })
  list_typed_after id list hs is sources book kept groups same = by_answer r refl sources book kept groups same
    where
      x : GroupList
      x = record { group = record { 0 = id }; entries = list }

      by_answer : (t : Result (Unit {0}) E) → t ≡ t → OnOk t (HasSources list) → OnOk t (cs ≡ remap_set id list l.groups bs) → OnErr t (cs ≡ bs) → OnOk t (hs ≡ with_remap id list l.groups) → OnErr t (hs ≡ l.groups) → typed s cs ≡ Ok (record l { groups = hs })
      by_answer (Ok u) o so b k gr sa = ap (typed s) b ∙ list_typed s id list bs l e (list_written x is so).reads is ∙ ap (λ (g : List (Group s)). Ok (record l { groups = g })) (sym gr)
      by_answer (Err u) o so b k gr sa = ap (typed s) k ∙ e ∙ ap (λ (g : List (Group s)). Ok (record l { groups = g })) (sym sa)

  pub anew_typed_after : (acts : List (Act s)) (es : List (Entity s)) → OnOk r (cs ≡ made_anew kind.Entity (entity_records acts es) bs) → OnErr r (cs ≡ bs) → typed s cs ≡ Ok l
  anew_typed_after acts es book kept = by_answer r book kept
    where
      by_answer : (t : Result (Unit {0}) E) → OnOk t (cs ≡ made_anew kind.Entity (entity_records acts es) bs) → OnErr t (cs ≡ bs) → typed s cs ≡ Ok l
      by_answer (Ok u) b k = ap (typed s) b ∙ typing_law.entities s (entity_records acts es) bs (all_entities acts es) ∙ e
      by_answer (Err u) b k = ap (typed s) k ∙ e

  pub lists_typed_after : (xs : List GroupList) (hs : List (Group s)) → All (IsGroupList l.groups) xs → IsDistinct nat_eq (map list_handle xs) → OnOk r (All (λ (x : GroupList). HasSources x.entries) (grown l.groups xs)) →
      OnOk r (cs ≡ lists_set xs l.groups bs) → OnErr r (cs ≡ bs) → OnOk r (hs ≡ with_lists xs l.groups) → OnErr r (hs ≡ l.groups) → typed s cs ≡ Ok (record l { groups = hs })
  lists_typed_after xs hs all d sources book kept groups same = by_answer r sources book kept groups same
    where
      by_answer : (t : Result (Unit {0}) E) → OnOk t (All (λ (x : GroupList). HasSources x.entries) (grown l.groups xs)) → OnOk t (cs ≡ lists_set xs l.groups bs) → OnErr t (cs ≡ bs) → OnOk t (hs ≡ with_lists xs l.groups) → OnErr t (hs ≡ l.groups) → typed s cs ≡ Ok (record l { groups = hs })
      by_answer (Ok u) so b k gr sa =
          ap (typed s) (b ∙ sym (set_lists_law.grown_text s xs l.groups bs d))
          ∙ typing_law.lists s (grown l.groups xs) bs l (All-filter (λ x. grew x l.groups) (IsGroupList l.groups) xs all) so e
          ∙ ap (λ (g : List (Group s)). Ok (record l { groups = g })) (set_lists_law.grown_lists s xs l.groups d ∙ sym gr)
      by_answer (Err u) so b k gr sa = ap (typed s) k ∙ e ∙ ap (λ (g : List (Group s)). Ok (record l { groups = g })) (sym sa)

  pub params_typed_after : IsScale s → (qs ps : List (ParamValue s)) → All (λ (q : ParamValue s). q.id.0 ≢ 0) qs → OnOk r (All (λ (q : ParamValue s). q.id.0 < 2 ^ 32) qs) → OnOk r (All (λ (q : ParamValue s). IsInLimit q.value) qs) →
      OnOk r (cs ≡ params_set qs l.params bs) → OnErr r (cs ≡ bs) → OnOk r (ps ≡ with_params qs l.params) → OnErr r (ps ≡ l.params) → typed s cs ≡ Ok (record l { params = ps })
  params_typed_after scale qs ps some small fits book kept params same = by_answer r small fits book kept params same
    where
      by_answer : (t : Result (Unit {0}) E) → OnOk t (All (λ (q : ParamValue s). q.id.0 < 2 ^ 32) qs) → OnOk t (All (λ (q : ParamValue s). IsInLimit q.value) qs) → OnOk t (cs ≡ params_set qs l.params bs) → OnErr t (cs ≡ bs) → OnOk t (ps ≡ with_params qs l.params) → OnErr t (ps ≡ l.params) → typed s cs ≡ Ok (record l { params = ps })
      by_answer (Ok u) sm fi b k pa sa = ap (typed s) b ∙ typing_law.params s scale qs bs l (all_settable qs some sm fi) e ∙ ap (λ (p : List (ParamValue s)). Ok (record l { params = p })) (sym pa)
      by_answer (Err u) sm fi b k pa sa = ap (typed s) k ∙ e ∙ ap (λ (p : List (ParamValue s)). Ok (record l { params = p })) (sym sa)

-- the handles of the parameters
pub handles_after : {s : ℕ} {E : Type 0} (r : Result (Unit {0}) E) (keys news : List ℕ) (ps qs : List (ParamValue s)) → keys ≡ map value_handle ps → OnOk r (news ≡ map value_handle qs) → OnErr r (news ≡ keys) → OnErr r (qs ≡ ps) → news ≡ map value_handle qs
handles_after (Ok x) keys news ps qs are e k p = e
handles_after (Err x) keys news ps qs are e k p = k ∙ are ∙ ap (map value_handle) (sym p)

-- the handles of the groups
pub lists_handles : {s : ℕ} {E : Type 0} (r : Result (Unit {0}) E) (xs : List GroupList) (gs hs : List (Group s)) → OnOk r (hs ≡ with_lists xs gs) → OnErr r (hs ≡ gs) → map group_handle hs ≡ map group_handle gs
lists_handles (Ok x) xs gs hs e k = ap (map group_handle) e ∙ many_handles xs gs
lists_handles (Err x) xs gs hs e k = ap (map group_handle) k

pub group_lists : {s : ℕ} (keys : List ℕ) (gs : List (Group s)) (xs : List GroupList) → keys ≡ map group_handle gs → All (IsGroupList gs) xs → All (λ (x : GroupList). seen_in x.group.0 keys ≡ true) xs
group_lists keys gs xs are all = λ k d l. rw are (all k d l).group
