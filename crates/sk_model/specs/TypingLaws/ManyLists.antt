-- Remap lists that are set one after the other.
use Rattle.std.proofs.Common.{◌≡◌, inl, inr, ℕ, ◌<◌, ◌^◌, List, [], ◌∷◌, ◌++◌, length, map, Bool, true, false, nat_eq, nat_lt, Ok, refl, sym, ap, ◌∙◌, subst, arith}
use Rattle.std.specs.Prelude.{pos, int_le, ◌&&◌, not}
use Rattle.std.specs.List.{All, AllByRecursion, IsDistinct, position_or_len}
use Rattle.std.proofs.lemmas.Bool.{cases_Bool, eqb-true, le-ltb}
use Rattle.std.proofs.lemmas.List.Elements.{All-nil, All-cons, All-head, All-tail}
use Rattle.std.proofs.lemmas.Map.Keys.{IsDistinct-head, IsDistinct-tail}
use Rattle.sk_text.specs.Lines.{TextLine, joined}
use Rattle.sk_types.specs.declared.group.Group.{Group}
use Rattle.sk_types.specs.declared.group.RemapEntry.{RemapEntry}
use Rattle.sk_records.specs.declared.kinds.Kind.TheVariants as kind
use Rattle.sk_records.specs.Rows.{with_map}
use Rattle.sk_records.specs.Blocks.{Block, on_record}
use Rattle.sk_records.specs.ChangeLists.{Change, all_changed}
use Rattle.sk_records.specs.Written.{IsText}
use Rattle.sk_records.specs.Given.{list_row}
use Rattle.sk_records.specs.Laws.{texts_law}
use Rattle.sk_model.specs.declared.remap.GroupList.{GroupList}
use Rattle.sk_model.specs.declared.faults.ModelFault.TheVariants.{BadValue}
use Rattle.sk_model.specs.Chain.{seen_in, all_of}
use Rattle.sk_model.specs.Remap.{entry_over, is_in_range, is_within, numbers_in}
use Rattle.sk_types.specs.Copies.{copies_in}
use Rattle.sk_model.specs.Typed.{Typed, typed, group_handle}
use Rattle.sk_model.specs.Changes.{with_remap, remap_set, list_lines, numbers_of, list_in, grew, with_list, list_set, with_lists, lists_set, list_handle, grown, list_changes}
use Rattle.sk_model.specs.Settable.{IsRemapList, IsGroupList, HasSources}
use Rattle.sk_model.specs.WrittenLines.{IsEntryText, IsListText}
use Rattle.sk_model.specs.TypingLaws.Chains.{then_parts, refused_passed}
use Rattle.sk_model.specs.TypingLaws.ListTexts.{entry_is, list_is}
use Rattle.sk_model.specs.TypingLaws.RemapSet.{handles_kept, list_typed}

-- ---- entries of a list that may be set are written as lines that read back

both_true : (a b : Bool) → (a && b) ≡ true → (a ≡ true) × (b ≡ true)
both_true true b e = (refl, e)
both_true false b e = cc

not_false : (t : Bool) → not t ≡ false → t ≡ true
not_false true e = refl
not_false false e = cc

small : (least most n : ℕ) → most < 2 ^ 16 → is_within (pos least) (pos most) (pos n) ≡ true → n < 2 ^ 16
small least most n below e = let parts = both_true (int_le (pos least) (pos n)) (int_le (pos n) (pos most)) e in grind (arith, parts.1)

small_entry : (id : ℕ) (numbers : List ℕ) (copies : List (ℕ × ℕ)) (e x : RemapEntry) → entry_over id numbers copies (numbers_of e) ≡ Ok x → (e.number < 2 ^ 16) × (e.copy < 2 ^ 16)
unfolding entry_over
small_entry id numbers copies e x h =
    let a = refused_passed (not (is_in_range (numbers_of e))) (BadValue id) _ x h in
    let parts = both_true (is_within (pos 1) (pos 65535) (pos e.number)) (is_within (pos 0) (pos 65535) (pos e.copy)) (not_false (is_in_range (numbers_of e)) a.0) in
    (small 1 65535 e.number (omega arith) parts.0, small 0 65535 e.copy (omega arith) parts.1)

entries_written : (id : ℕ) (seen es xs : List RemapEntry) → HasSources es →
    all_of (λ (e : RemapEntry). e) (λ before e. entry_over id (numbers_in before) (copies_in before) e) seen (map numbers_of es) ≡ Ok xs → All IsEntryText es
entries_written id seen [] xs sources h = All-nil IsEntryText
entries_written id seen (e ∷ es) xs sources h =
    then_parts (entry_over id (numbers_in seen) (copies_in seen) (numbers_of e)) _ xs h (λ x ex h1.
    then_parts (all_of (λ (e : RemapEntry). e) (λ before e. entry_over id (numbers_in before) (copies_in before) e) (seen ++ x ∷ []) (map numbers_of es)) _ xs h1 (λ ys eys h2.
    (let parts = small_entry id (numbers_in seen) (copies_in seen) e x ex in
    All-cons IsEntryText e es (entry_is e parts.0 (All-head (λ (x : RemapEntry). x.source.0 < 2 ^ 32) e es sources) parts.1)
    (entries_written id (seen ++ x ∷ []) es ys (All-tail (λ (x : RemapEntry). x.source.0 < 2 ^ 32) e es sources) eys))))

pub list_written : (x : GroupList) → IsRemapList x.group.0 x.entries → HasSources x.entries → IsListText x.entries (joined (list_lines x.entries))
list_written x is sources = list_is x.entries (joined (list_lines x.entries)) (entries_written x.group.0 [] x.entries x.entries sources is) refl

flip : (m n : ℕ) → nat_eq m n ≡ false → nat_eq n m ≡ false
flip m n e = grind (arith, e)

not_here : (id other n : ℕ) → nat_eq other id ≡ false → nat_eq id n ≡ true → nat_eq other n ≡ false
not_here id other n e y = subst (λ (k : ℕ). nat_eq other k ≡ false) (eqb-true id n y) e

not_below : (n : ℕ) → nat_lt n n ≡ false
not_below n = le-ltb n n (omega arith)

abbrev Distinct : List GroupList → Type 0
Distinct xs = IsDistinct nat_eq (map list_handle xs)

module _ {s : ℕ} where
  -- ---- looking lists up

  list_in_set : (id : ℕ) (es : List RemapEntry) (gs : List (Group s)) → seen_in id (map group_handle gs) ≡ true → list_in id (with_remap id es gs) ≡ es
  list_in_set id es [] e = cc
  list_in_set id es (g ∷ gs) e = elim (cases_Bool (nat_eq id g.id.0)) [
    | inl y ↦ rw (y, y) refl
    | inr n ↦ rw (n, n) (list_in_set id es gs (rw n at e))
  ]

  list_in_other : (id other : ℕ) (es : List RemapEntry) (gs : List (Group s)) → nat_eq other id ≡ false → list_in other (with_remap id es gs) ≡ list_in other gs
  list_in_other id other es [] e = refl
  list_in_other id other es (g ∷ gs) e = elim (cases_Bool (nat_eq id g.id.0)) [
    | inl y ↦ rw y (rw (not_here id other g.id.0 e y) refl)
    | inr n ↦ rw n (elim (cases_Bool (nat_eq other g.id.0)) [ inl y ↦ rw y refl | inr m ↦ rw m (list_in_other id other es gs e) ])
  ]

  in_other : (x : GroupList) (other : ℕ) (gs : List (Group s)) → nat_eq other x.group.0 ≡ false → list_in other (with_list x gs) ≡ list_in other gs
  in_other x other gs e = elim (cases_Bool (grew x gs)) [ inl t ↦ rw t (list_in_other x.group.0 other x.entries gs e) | inr f ↦ rw f refl ]

  handles_in : (x : GroupList) (gs : List (Group s)) → map group_handle (with_list x gs) ≡ map group_handle gs
  handles_in x gs = elim (cases_Bool (grew x gs)) [ inl t ↦ rw t (handles_kept s x.group.0 x.entries gs) | inr f ↦ rw f refl ]

  pub handles_many : (xs : List GroupList) (gs : List (Group s)) → map group_handle (with_lists xs gs) ≡ map group_handle gs
  handles_many [] gs = refl
  handles_many (x ∷ xs) gs = handles_many xs (with_list x gs) ∙ handles_in x gs

  pub lists_stand : (x : GroupList) (gs : List (Group s)) (xs : List GroupList) → All (IsGroupList gs) xs → All (IsGroupList (with_list x gs)) xs
  lists_stand x gs [] all = All-nil (IsGroupList (with_list x gs))
  lists_stand x gs (y ∷ ys) all =
      let is = All-head (IsGroupList gs) y ys all in
      All-cons (IsGroupList (with_list x gs)) y ys (record { group = ap (seen_in y.group.0) (handles_in x gs) ∙ is.group; list = is.list }) (lists_stand x gs ys (All-tail (IsGroupList gs) y ys all))

  -- ---- what is typed

  list_step : (x : GroupList) (bs : List Block) (l : Typed s) → typed s bs ≡ Ok l → IsGroupList l.groups x → HasSources x.entries → typed s (list_set x l.groups bs) ≡ Ok (record l { groups = with_list x l.groups })
  list_step x bs l e is sources = elim (cases_Bool (grew x l.groups)) [
    | inl t ↦ rw t (list_typed s x.group.0 x.entries bs l e (list_written x is.list sources).reads is.list)
    | inr f ↦ rw f e
  ]

  pub lists_typed : (xs : List GroupList) (bs : List Block) (l : Typed s) → All (IsGroupList l.groups) xs → All (λ (x : GroupList). HasSources x.entries) xs → typed s bs ≡ Ok l → typed s (lists_set xs l.groups bs) ≡ Ok (record l { groups = with_lists xs l.groups })
  lists_typed [] bs l all sources e = e
  lists_typed (x ∷ xs) bs l all sources e =
      lists_typed xs (list_set x l.groups bs) (record l { groups = with_list x l.groups }) (lists_stand x l.groups xs (All-tail (IsGroupList l.groups) x xs all)) (All-tail (λ (x : GroupList). HasSources x.entries) x xs sources)
      (list_step x bs l e (All-head (IsGroupList l.groups) x xs all) (All-head (λ (x : GroupList). HasSources x.entries) x xs sources))

  -- ---- a text stays one

  list_text : (x : GroupList) (gs : List (Group s)) (bs : List Block) → IsRemapList x.group.0 x.entries → HasSources x.entries → IsText bs → IsText (remap_set x.group.0 x.entries gs bs)
  unfolding remap_set
  list_text x gs bs is sources text =
      let lines : List ℕ = joined (list_lines x.entries) in
      let written : IsListText x.entries lines = list_written x is sources in
      let place : ℕ = position_or_len (nat_eq x.group.0) (map group_handle gs) in
      subst (λ (ls : List TextLine). IsText (on_record kind.Group place (with_map (map list_row ls)) bs)) written.same (texts_law.changed kind.Group place _ bs (texts_law.list_keeps lines written.whole written.ended) text)

  pub lists_text : (xs : List GroupList) (gs : List (Group s)) (bs : List Block) → All (λ (x : GroupList). IsRemapList x.group.0 x.entries) xs → All (λ (x : GroupList). HasSources x.entries) xs → IsText bs → IsText (lists_set xs gs bs)
  lists_text [] gs bs all sources text = text
  lists_text (x ∷ xs) gs bs all sources text =
      lists_text xs (with_list x gs) (list_set x gs bs) (All-tail (λ (x : GroupList). IsRemapList x.group.0 x.entries) x xs all) (All-tail (λ (x : GroupList). HasSources x.entries) x xs sources)
      (elim (cases_Bool (grew x gs)) [
        | inl t ↦ rw t (list_text x gs bs (All-head (λ (x : GroupList). IsRemapList x.group.0 x.entries) x xs all) (All-head (λ (x : GroupList). HasSources x.entries) x xs sources) text)
        | inr f ↦ rw f text
      ])

  -- ---- once more

  grew_after : (x : GroupList) (gs : List (Group s)) → seen_in x.group.0 (map group_handle gs) ≡ true → grew x (with_list x gs) ≡ false
  grew_after x gs there = elim (cases_Bool (grew x gs)) [
    | inl t ↦ rw t (ap (λ (es : List RemapEntry). nat_lt (length es) (length x.entries)) (list_in_set x.group.0 x.entries gs there) ∙ not_below (length x.entries))
    | inr f ↦ rw f f
  ]

  in_others : (id : ℕ) (xs : List GroupList) (gs : List (Group s)) → AllByRecursion (λ y. nat_eq id y ≡ false) (map list_handle xs) → list_in id (with_lists xs gs) ≡ list_in id gs
  in_others id [] gs a = refl
  in_others id (x ∷ xs) gs a = in_others id xs (with_list x gs) a.1 ∙ in_other x id gs a.0

  -- set once, none of the lists grows
  pub none_grew : (xs : List GroupList) (gs : List (Group s)) → All (IsGroupList gs) xs → Distinct xs → All (λ (x : GroupList). grew x (with_lists xs gs) ≡ false) xs
  none_grew xs gs all d = from xs gs all d
    where
      from : (xs : List GroupList) (gs : List (Group s)) → All (IsGroupList gs) xs → Distinct xs → All (λ (x : GroupList). grew x (with_lists xs gs) ≡ false) xs
      from [] gs all d = All-nil (λ (x : GroupList). grew x gs ≡ false)
      from (x ∷ xs) gs all d =
          All-cons (λ (y : GroupList). grew y (with_lists xs (with_list x gs)) ≡ false) x xs
          (ap (λ (es : List RemapEntry). nat_lt (length es) (length x.entries)) (in_others x.group.0 xs (with_list x gs) (IsDistinct-head nat_eq x.group.0 (map list_handle xs) d)) ∙ grew_after x gs (All-head (IsGroupList gs) x xs all).group)
          (from xs (with_list x gs) (lists_stand x gs xs (All-tail (IsGroupList gs) x xs all)) (IsDistinct-tail nat_eq x.group.0 (map list_handle xs) d))

  pub lists_same : (xs : List GroupList) (gs : List (Group s)) → All (λ (x : GroupList). grew x gs ≡ false) xs → with_lists xs gs ≡ gs
  lists_same [] gs none = refl
  lists_same (x ∷ xs) gs none = rw (All-head (λ (x : GroupList). grew x gs ≡ false) x xs none) (lists_same xs gs (All-tail (λ (x : GroupList). grew x gs ≡ false) x xs none))

  pub blocks_same : (xs : List GroupList) (gs : List (Group s)) (bs : List Block) → All (λ (x : GroupList). grew x gs ≡ false) xs → lists_set xs gs bs ≡ bs
  blocks_same [] gs bs none = refl
  blocks_same (x ∷ xs) gs bs none = rw (All-head (λ (x : GroupList). grew x gs ≡ false) x xs none) (blocks_same xs gs bs (All-tail (λ (x : GroupList). grew x gs ≡ false) x xs none))

  -- ---- in one pass

  grew_other : (x y : GroupList) (gs : List (Group s)) → nat_eq x.group.0 y.group.0 ≡ false → grew y (with_list x gs) ≡ grew y gs
  grew_other x y gs e = ap (λ (es : List RemapEntry). nat_lt (length es) (length y.entries)) (in_other x y.group.0 gs (flip x.group.0 y.group.0 e))

  changes_kept : (x : GroupList) (gs : List (Group s)) (xs : List GroupList) → AllByRecursion (λ y. nat_eq x.group.0 y ≡ false) (map list_handle xs) → list_changes (with_list x gs) xs ≡ list_changes gs xs
  changes_kept x gs [] a = refl
  changes_kept x gs (y ∷ ys) a = rw (grew_other x y gs a.0, handles_in x gs, changes_kept x gs ys a.1) refl

  pub lists_in_one_pass : (xs : List GroupList) (gs : List (Group s)) (bs : List Block) → Distinct xs → lists_set xs gs bs ≡ all_changed kind.Group (list_changes gs xs) bs
  unfolding remap_set
  lists_in_one_pass [] gs bs d = refl
  lists_in_one_pass (x ∷ xs) gs bs d =
      lists_in_one_pass xs (with_list x gs) (list_set x gs bs) (IsDistinct-tail nat_eq x.group.0 (map list_handle xs) d)
      ∙ ap (λ (cs : List Change). all_changed kind.Group cs (list_set x gs bs)) (changes_kept x gs xs (IsDistinct-head nat_eq x.group.0 (map list_handle xs) d))
      ∙ elim (cases_Bool (grew x gs)) [ inl t ↦ rw t refl | inr f ↦ rw f refl ]

  -- ---- the lists that grew alone

  grown_kept : (x : GroupList) (gs : List (Group s)) (xs : List GroupList) → AllByRecursion (λ y. nat_eq x.group.0 y ≡ false) (map list_handle xs) → grown (with_list x gs) xs ≡ grown gs xs
  grown_kept x gs [] a = refl
  grown_kept x gs (y ∷ ys) a = rw (grew_other x y gs a.0, grown_kept x gs ys a.1) refl

  pub grown_lists : (xs : List GroupList) (gs : List (Group s)) → Distinct xs → with_lists (grown gs xs) gs ≡ with_lists xs gs
  grown_lists [] gs d = refl
  grown_lists (x ∷ xs) gs d = by_test (grew x gs) refl (grown_lists xs (with_list x gs) (IsDistinct-tail nat_eq x.group.0 (map list_handle xs) d))
    where
      by_test : (t : Bool) → grew x gs ≡ t → with_lists (grown (with_list x gs) xs) (with_list x gs) ≡ with_lists xs (with_list x gs) → with_lists (grown gs (x ∷ xs)) gs ≡ with_lists xs (with_list x gs)
      by_test true e more =
          ap (λ (l : List GroupList). with_lists l gs) (first e)
          ∙ ap (λ (l : List GroupList). with_lists l (with_list x gs)) (sym (grown_kept x gs xs (IsDistinct-head nat_eq x.group.0 (map list_handle xs) d))) ∙ more
        where
          first : grew x gs ≡ true → grown gs (x ∷ xs) ≡ x ∷ grown gs xs
          first e = rw e refl
      by_test false e more = rw e (rw e at more)

  pub grown_blocks : (xs : List GroupList) (gs : List (Group s)) (bs : List Block) → Distinct xs → lists_set (grown gs xs) gs bs ≡ lists_set xs gs bs
  grown_blocks [] gs bs d = refl
  grown_blocks (x ∷ xs) gs bs d = by_test (grew x gs) refl (grown_blocks xs (with_list x gs) (list_set x gs bs) (IsDistinct-tail nat_eq x.group.0 (map list_handle xs) d))
    where
      by_test : (t : Bool) → grew x gs ≡ t → lists_set (grown (with_list x gs) xs) (with_list x gs) (list_set x gs bs) ≡ lists_set xs (with_list x gs) (list_set x gs bs) → lists_set (grown gs (x ∷ xs)) gs bs ≡ lists_set xs (with_list x gs) (list_set x gs bs)
      by_test true e more =
          ap (λ (l : List GroupList). lists_set l gs bs) (first e)
          ∙ ap (λ (l : List GroupList). lists_set l (with_list x gs) (list_set x gs bs)) (sym (grown_kept x gs xs (IsDistinct-head nat_eq x.group.0 (map list_handle xs) d))) ∙ more
        where
          first : grew x gs ≡ true → grown gs (x ∷ xs) ≡ x ∷ grown gs xs
          first e = rw e refl
      by_test false e more = rw e (rw e at more)
