-- Many remap lists that are set, one behind the other.
use Rattle.std.proofs.Common.{◌≡◌, inl, inr, ℕ, suc, ◌+◌, ◌<◌, ◌^◌, List, [], ◌∷◌, ◌++◌, length, map, take, get_or, set, Bool, true, false, nat_eq, nat_lt, Some, refl, sym, ap, ◌∙◌, subst, arith}
use Rattle.std.specs.List.{All, AllByRecursion, IsDistinct, position, position_or_len}
use Rattle.std.proofs.lemmas.Bool.{cases_Bool}
use Rattle.std.proofs.lemmas.List.{append-nil, take_more}
use Rattle.std.proofs.lemmas.List.Elements.{All-nil, All-cons, All-head, All-tail, filter-append, filter_map-append, All-from_recursion}
use Rattle.sk_types.specs.declared.group.Group.{Group}
use Rattle.sk_types.specs.declared.group.RemapEntry.{RemapEntry}
use Rattle.sk_records.specs.declared.kinds.Kind.TheVariants as kind
use Rattle.sk_records.specs.Blocks.{Block, records, add_records}
use Rattle.sk_records.specs.ChangeLists.{Change, KindChanges, SetMap, change_place, all_changed}
use Rattle.sk_records.specs.Given.{AreRecords, given_list, given_records, list_row}
use Rattle.sk_records.specs.MapRows.{entry_lines}
use Rattle.sk_model.specs.declared.remap.GroupList.{GroupList}
use Rattle.sk_model.specs.declared.remap.EntryNumbers.{EntryNumbers}
use Rattle.sk_model.specs.Chain.{seen_in}
use Rattle.sk_model.specs.Typed.{group_handle}
use Rattle.sk_model.specs.Changes.{numbers_of, list_lines, list_in, grew, with_list, with_lists, lists_set, list_handle, grown, list_change, list_changes}
use Rattle.sk_model.specs.Settable.{HasSources}
use Rattle.sk_model.specs.Checked.{IsHandle}
use Rattle.sk_model.specs.WrittenLines.{IsListText}
use Rattle.sk_model.specs.TypingLaws.Lookups.{place_is}
use Rattle.sk_model.specs.TypingLaws.RemapSet.{handles_kept}
use Rattle.sk_model.proofs.Places.{group_placed}
use Rattle.sk_model.specs.TypingLaws.Checked.{all_read}
use Rattle.sk_model.specs.TypingLaws.ManyLists.{lists_in_one_pass}

one_more : (k : ℕ) → 1 + k ≡ suc k
one_more k = omega arith

abbrev place : {s : ℕ} → ℕ → List (Group s) → ℕ
place id gs = position_or_len (nat_eq id) (map group_handle gs)

-- a written list has handles
read_sources : (es : List RemapEntry) → AllByRecursion (λ (e : EntryNumbers). IsHandle e.source) (map numbers_of es) → AllByRecursion (λ (e : RemapEntry). e.source.0 < 2 ^ 32) es
read_sources [] all = tt
read_sources (e ∷ es) all = (all.0, read_sources es all.1)

pub text_sources : (es : List RemapEntry) (text : List ℕ) → IsListText es text → HasSources es
text_sources es text written = All-from_recursion (λ (e : RemapEntry). e.source.0 < 2 ^ 32) es (read_sources es (all_read (entry_lines (map list_row (list_lines es))) (map numbers_of es) written.reads))

abbrev Sourced : GroupList → Type 0
Sourced x = HasSources x.entries

abbrev Exists : List Block → Change → Type 0
Exists bs c = change_place c < length (records kind.Group bs)

abbrev Seen : List ℕ → GroupList → Type 0
Seen keys x = seen_in x.group.0 keys ≡ true

pub exist_next : (keys : List ℕ) (old rest : List GroupList) (x : GroupList) → old ≡ x ∷ rest → All (Seen keys) old → All (Seen keys) rest
exist_next keys old rest x steps all = All-tail (Seen keys) x rest (subst (All (Seen keys)) steps all)

pub exist_first : (keys : List ℕ) (old rest : List GroupList) (x : GroupList) → old ≡ x ∷ rest → All (Seen keys) old → seen_in x.group.0 keys ≡ true
exist_first keys old rest x steps all = All-head (Seen keys) x rest (subst (All (Seen keys)) steps all)

module _ {s : ℕ} where
  list_there : (id : ℕ) (d : Group s) (gs : List (Group s)) → seen_in id (map group_handle gs) ≡ true → list_in id gs ≡ (get_or gs (place id gs) d).remap
  list_there id d [] e = cc
  list_there id d (g ∷ gs) e = elim (cases_Bool (nat_eq id g.id.0)) [
    | inl t ↦ rw t refl
    | inr f ↦ rw (f, one_more (place id gs)) (list_there id d gs (rw f at e))
  ]

  place_within : (id : ℕ) (gs : List (Group s)) → seen_in id (map group_handle gs) ≡ true → place id gs < length gs
  place_within id [] e = cc
  place_within id (g ∷ gs) e = elim (cases_Bool (nat_eq id g.id.0)) [
    | inl t ↦ rw t (omega arith)
    | inr f ↦ rw f (let below : place id gs < length gs = place_within id gs (rw f at e) in omega arith)
  ]

  module _ (gs : List (Group s)) (x : GroupList) (i : ℕ) (d g : Group s) (keys : List ℕ) (are : keys ≡ map group_handle gs) (seen : seen_in x.group.0 keys ≡ true) (at : position (nat_eq x.group.0) keys ≡ Some i) (is : g ≡ get_or gs i d) where
    placed : place x.group.0 gs ≡ i
    placed = place_is _ _ i (rw are at at)

    pub tested : (t : Bool) → nat_lt (length g.remap) (length x.entries) ≡ t → grew x gs ≡ t
    tested t e =
        ap (λ (es : List RemapEntry). nat_lt (length es) (length x.entries))
        (list_there x.group.0 d gs (rw are at seen) ∙ ap (λ (k : ℕ). (get_or gs k d).remap) placed ∙ ap (λ (h : Group s). h.remap) (sym is)) ∙ e

    pub changed : (text : List ℕ) (c e : KindChanges) → IsListText x.entries text → grew x gs ≡ true → c.kind ≡ kind.Group → e ≡ record { kind = c.kind; list = c.list ++ SetMap i (given_list text) ∷ [] } → e ≡ record { kind = kind.Group; list = c.list ++ list_changes gs (x ∷ []) }
    changed text c e written grows k more =
        more ∙ ap (λ j. record { kind = j; list = c.list ++ SetMap i (given_list text) ∷ [] }) k
        ∙ rw grows (ap (λ (n : ℕ). record { kind = kind.Group; list = c.list ++ SetMap n (given_list text) ∷ [] }) (sym placed) ∙ ap (λ ls. record { kind = kind.Group; list = c.list ++ SetMap (place x.group.0 gs) (map list_row ls) ∷ [] }) written.same)

    pub set_grown : (after : List (Group s)) → grew x gs ≡ true → after ≡ set gs i (record (get_or gs i d) { remap = x.entries }) → after ≡ with_list x gs
    set_grown after t n = n ∙ group_placed x.group.0 i x.entries x.entries (get_or gs i d) d gs (rw are at at) refl refl ∙ rw t refl

  pub kept : (gs : List (Group s)) (x : GroupList) → grew x gs ≡ false → gs ≡ with_list x gs
  kept gs x f = rw f refl

  pub same_handles : (x : GroupList) (gs : List (Group s)) → map group_handle (with_list x gs) ≡ map group_handle gs
  same_handles x gs = elim (cases_Bool (grew x gs)) [ inl t ↦ rw t (handles_kept s x.group.0 x.entries gs) | inr f ↦ rw f refl ]

  pub many_handles : (xs : List GroupList) (gs : List (Group s)) → map group_handle (with_lists xs gs) ≡ map group_handle gs
  many_handles [] gs = refl
  many_handles (x ∷ xs) gs = many_handles xs (with_list x gs) ∙ same_handles x gs

  -- the next of the lists that are to come
  module _ (gs initial after : List (Group s)) (all old rest : List GroupList) (x : GroupList) (keys : List ℕ) (steps : old ≡ x ∷ rest) (is : after ≡ with_list x gs) where
    pub lists_next : with_lists old gs ≡ with_lists all initial → with_lists rest after ≡ with_lists all initial
    lists_next inv = ap (with_lists rest) is ∙ ap (λ (l : List GroupList). with_lists l gs) (sym steps) ∙ inv

    pub handles_next : keys ≡ map group_handle gs → keys ≡ map group_handle after
    handles_next are = are ∙ sym (ap (map group_handle) is ∙ same_handles x gs)

  pub unchanged : (gs : List (Group s)) (x : GroupList) (c : KindChanges) → grew x gs ≡ false → c.kind ≡ kind.Group → c ≡ record { kind = kind.Group; list = c.list ++ list_changes gs (x ∷ []) }
  unchanged gs x c e k = rw e (rw (append-nil c.list) (ap (λ j. record { kind = j; list = c.list }) k))

  pub none_sourced : (gs : List (Group s)) (x : GroupList) → grew x gs ≡ false → All Sourced (grown gs (x ∷ []))
  none_sourced gs x e = rw e (All-nil Sourced)

  pub one_sourced : (gs : List (Group s)) (x : GroupList) (text : List ℕ) → grew x gs ≡ true → IsListText x.entries text → All Sourced (grown gs (x ∷ []))
  one_sourced gs x text e written = rw e (All-cons Sourced x [] (text_sources x.entries text written) (All-nil Sourced))

  -- ---- one behind the other

  module _ (gs : List (Group s)) (xs : List GroupList) (i : ℕ) (d : GroupList) (below : i < length xs) (x : GroupList) (item : x ≡ get_or xs i d) where
    next : take (i + 1) xs ≡ take i xs ++ x ∷ []
    next = take_more xs i d below ∙ ap (λ (y : GroupList). take i xs ++ y ∷ []) (sym item)

    pub changes_step : (c e : KindChanges) → c ≡ record { kind = kind.Group; list = list_changes gs (take i xs) } → e ≡ record { kind = kind.Group; list = c.list ++ list_changes gs (x ∷ []) } → e ≡ record { kind = kind.Group; list = list_changes gs (take (i + 1) xs) }
    changes_step c e is more =
        more ∙ ap (λ (k : KindChanges). record { kind = kind.Group; list = k.list ++ list_changes gs (x ∷ []) }) is
        ∙ ap (λ (l : List Change). record { kind = kind.Group; list = l }) (sym (filter_map-append (list_change gs) (take i xs) (x ∷ [])) ∙ ap (list_changes gs) (sym (next)))

    pub sources_step : All Sourced (grown gs (take i xs)) → All Sourced (grown gs (x ∷ [])) → All Sourced (grown gs (take (i + 1) xs))
    sources_step all here = subst (All Sourced) (sym (filter-append (λ y. grew y gs) (take i xs) (x ∷ [])) ∙ ap (grown gs) (sym (next))) (both (grown gs (take i xs)) (grown gs (x ∷ [])) all here)
      where
        both : (ys zs : List GroupList) → All Sourced ys → All Sourced zs → All Sourced (ys ++ zs)
        both [] zs a b = b
        both (y ∷ ys) zs a b = All-cons Sourced y (ys ++ zs) (All-head Sourced y ys a) (both ys zs (All-tail Sourced y ys a) b)

  -- ---- what the book is asked for

  pub changes_exist : (gs : List (Group s)) (keys : List ℕ) (bs : List Block) (xs : List GroupList) → keys ≡ map group_handle gs → length (records kind.Group bs) ≡ length gs → All (λ (x : GroupList). seen_in x.group.0 keys ≡ true) xs → All (Exists bs) (list_changes gs xs)
  changes_exist gs keys bs [] are len seen = All-nil (Exists bs)
  changes_exist gs keys bs (x ∷ xs) are len seen =
      let more = changes_exist gs keys bs xs are len (All-tail (λ (x : GroupList). seen_in x.group.0 keys ≡ true) x xs seen) in
      let here : seen_in x.group.0 (map group_handle gs) ≡ true = rw are at (All-head (λ (x : GroupList). seen_in x.group.0 keys ≡ true) x xs seen) in
      elim (cases_Bool (grew x gs)) [
        | inl t ↦ rw t (All-cons (Exists bs) (SetMap (place x.group.0 gs) (map list_row (list_lines x.entries))) (list_changes gs xs) (subst (λ (n : ℕ). place x.group.0 gs < n) (sym len) (place_within x.group.0 gs here)) more)
        | inr f ↦ rw f more
      ]

  -- the same of the changes that are made
  pub made_exist : (gs hs : List (Group s)) (keys : List ℕ) (bs : List Block) (xs ys : List GroupList) (c : KindChanges) → c ≡ record { kind = kind.Group; list = list_changes hs ys } → hs ≡ gs → ys ≡ xs → keys ≡ map group_handle gs → length (records kind.Group bs) ≡ length gs → All (λ (x : GroupList). seen_in x.group.0 keys ≡ true) xs →
      All (λ (e : Change). change_place e < length (records c.kind bs)) c.list
  made_exist gs hs keys bs xs ys c ic ig ix are len seen = rw ic (rw (ig, ix) (changes_exist gs keys bs xs are len seen))

  pub book_changed : (gs : List (Group s)) (xs : List GroupList) (bs ds : List Block) (c : KindChanges) → IsDistinct nat_eq (map list_handle xs) → c ≡ record { kind = kind.Group; list = list_changes gs xs } →
      ds ≡ add_records c.kind (given_records []) (all_changed c.kind c.list bs) → ds ≡ lists_set xs gs bs
  book_changed gs xs bs ds c d is e = e ∙ ap (λ (k : KindChanges). add_records k.kind (given_records []) (all_changed k.kind k.list bs)) is ∙ sym (lists_in_one_pass xs gs bs d)

  pub made_changed : (gs hs : List (Group s)) (xs ys : List GroupList) (bs ds : List Block) (c : KindChanges) → IsDistinct nat_eq (map list_handle xs) → c ≡ record { kind = kind.Group; list = list_changes hs ys } → hs ≡ gs → ys ≡ xs →
      ds ≡ add_records c.kind (given_records []) (all_changed c.kind c.list bs) → ds ≡ lists_set xs gs bs
  made_changed gs hs xs ys bs ds c d ic ig ix e = book_changed gs xs bs ds c d (rw (ig, ix) at ic) e

pub nothing_given : AreRecords kind.Group []
nothing_given = record { given = []; read = refl; kind = tt; ended = tt }
