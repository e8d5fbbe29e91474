-- Many parameters that are set, one behind the other.
use Rattle.std.proofs.Common.{◌≡◌, inl, inr, ℕ, ◌+◌, ◌<◌, List, [], ◌∷◌, ◌++◌, length, map, take, get_or, Bool, true, false, nat_eq, Option, Some, None, refl, sym, ap, ◌∙◌, subst}
use Rattle.std.specs.Prelude.{ℤ, ◌||◌}
use Rattle.std.specs.Option.{is_none}
use Rattle.std.specs.Ordering.{int_eq}
use Rattle.std.specs.List.{All, AllByRecursion, IsDistinct, cons_option, position}
use Rattle.std.proofs.lemmas.Bool.{cases_Bool, eq-eqb}
use Rattle.std.proofs.lemmas.List.{append-nil, map-append, take_more, length-map}
use Rattle.std.proofs.lemmas.List.Elements.{All-nil, All-cons, All-push, All-filter, filter-append, filter_map-append}
use Rattle.std.proofs.lemmas.List.Folds.{list_any-append}
use Rattle.std.proofs.Math.Seq.{take-append_seam}
use Rattle.std.proofs.lemmas.Map.Keys.{IsDistinct-head, IsDistinct-tail, IsDistinct-cons}
use Rattle.sk_num.specs.Limit.{IsInLimit}
use Rattle.sk_num.specs.Scale.{IsScale}
use Rattle.sk_num.specs.Spelling.{quantity_text}
use Rattle.sk_num.specs.SpellingLaws.{quantity-read_back}
use Rattle.sk_types.specs.declared.entity.ParamValue.{ParamValue}
use Rattle.sk_types.specs.Lookups.{value_handle, value_of}
use Rattle.sk_records.specs.declared.kinds.Kind.TheVariants as kind
use Rattle.sk_records.specs.Blocks.{Block, Rec, records, with_tails, add_records}
use Rattle.sk_records.specs.ChangeLists.{Change, KindChanges, SetValue, change_place, all_changed}
use Rattle.sk_records.specs.Written.{bytes_of}
use Rattle.sk_records.specs.Given.{AreRecords, given_records}
use Rattle.sk_model.specs.declared.keys.Key.TheVariants as key
use Rattle.sk_model.specs.Keys.{key_bytes}
use Rattle.sk_model.specs.Chain.{seen_in}
use Rattle.sk_model.specs.Changes.{new_record, is_value, with_params, params_set, absent, change_at, change_of, value_changes}
use Rattle.sk_model.specs.Settable.{ReadsBack}
use Rattle.sk_model.specs.TypingLaws.Lookups.{value_found, value_missing, place_below}
use Rattle.sk_model.specs.TypingLaws.ParamSet.{new_unseen}
use Rattle.sk_model.specs.TypingLaws.ParamTexts.{records_given, records_are}
use Rattle.sk_model.specs.TypingLaws.ManyParams.{in_one_list, list_in_steps}
use Rattle.sk_model.proofs.PairLines.{records-append}

-- ---- what is written of several records

written-append : {s : ℕ} (ps qs : List (ParamValue s)) → bytes_of (with_tails (map new_record (ps ++ qs))) ≡ bytes_of (with_tails (map new_record ps)) ++ bytes_of (with_tails (map new_record qs))
written-append ps qs =
    ap (λ (rs : List Rec). bytes_of (with_tails rs)) (map-append new_record ps qs)
    ∙ records-append (map new_record ps) (map new_record qs)

module _ {s : ℕ} (ps qs : List (ParamValue s)) (i : ℕ) (d : ParamValue s) (below : i < length qs) (q : ParamValue s) (item : q ≡ get_or qs i d) where
  next : take (i + 1) qs ≡ take i qs ++ q ∷ []
  next = take_more qs i d below ∙ ap (λ (y : ParamValue s). take i qs ++ y ∷ []) (sym item)

  pub changes_step : (cs ds : KindChanges) → cs ≡ record { kind = kind.Param; list = value_changes ps (take i qs) } → ds ≡ record { kind = kind.Param; list = cs.list ++ value_changes ps (q ∷ []) } →
      ds ≡ record { kind = kind.Param; list = value_changes ps (take (i + 1) qs) }
  changes_step cs ds is more =
      more ∙ ap (λ (c : KindChanges). record { kind = kind.Param; list = c.list ++ value_changes ps (q ∷ []) }) is
      ∙ ap (λ (l : List Change). record { kind = kind.Param; list = l }) (sym (filter_map-append (change_of ps) (take i qs) (q ∷ [])) ∙ ap (value_changes ps) (sym (next)))

  pub added_step : (news more : List (ParamValue s)) → news ≡ absent ps (take i qs) → more ≡ news ++ absent ps (q ∷ []) → more ≡ absent ps (take (i + 1) qs)
  added_step news more is e =
      e ∙ ap (λ (l : List (ParamValue s)). l ++ absent ps (q ∷ [])) is
      ∙ sym (filter-append (λ q. is_none (value_of q.id.0 ps)) (take i qs) (q ∷ [])) ∙ ap (absent ps) (sym (next))

  pub lines_step : (a b : List ℕ) → a ≡ bytes_of (with_tails (map new_record (absent ps (take i qs)))) → b ≡ a ++ bytes_of (with_tails (map new_record (absent ps (q ∷ [])))) →
      b ≡ bytes_of (with_tails (map new_record (absent ps (take (i + 1) qs))))
  lines_step a b is more =
      more ∙ ap (λ (l : List ℕ). l ++ bytes_of (with_tails (map new_record (absent ps (q ∷ []))))) is
      ∙ sym (written-append (absent ps (take i qs)) (absent ps (q ∷ [])))
      ∙ ap (λ (l : List (ParamValue s)). bytes_of (with_tails (map new_record l))) (added_step (absent ps (take i qs)) (absent ps (take i qs) ++ absent ps (q ∷ [])) refl refl)

-- ---- one parameter

-- a list that gets no more
pub none_more : (c : KindChanges) (more : List Change) → c.kind ≡ kind.Param → more ≡ [] → c ≡ record { kind = kind.Param; list = c.list ++ more }
none_more c more k e = rw e (rw (append-nil c.list) (ap (λ j. record { kind = j; list = c.list }) k))

module _ {s : ℕ} (ps : List (ParamValue s)) (q : ParamValue s) where
  pub new_absent : position (nat_eq q.id.0) (map value_handle ps) ≡ None → absent ps (q ∷ []) ≡ q ∷ []
  new_absent at = rw (sym (value_missing q.id.0 ps (map value_handle ps) refl at)) refl

  pub new_unchanged : position (nat_eq q.id.0) (map value_handle ps) ≡ None → value_changes ps (q ∷ []) ≡ []
  new_unchanged at = rw (sym (value_missing q.id.0 ps (map value_handle ps) refl at), at) refl

  module _ (i : ℕ) (d : ParamValue s) (at : position (nat_eq q.id.0) (map value_handle ps) ≡ Some i) where
    pub not_absent : absent ps (q ∷ []) ≡ []
    not_absent = rw (sym (value_found q.id.0 i d ps (map value_handle ps) refl at)) refl

    pub same_unchanged : int_eq (get_or ps i d).value q.value ≡ true → value_changes ps (q ∷ []) ≡ []
    same_unchanged e = rw (sym (value_found q.id.0 i d ps (map value_handle ps) refl at), e) refl

    pub other_changed : int_eq (get_or ps i d).value q.value ≡ false → value_changes ps (q ∷ []) ≡ SetValue i (key_bytes key.ParamValue) (quantity_text s q.value) ∷ []
    other_changed e = rw (sym (value_found q.id.0 i d ps (map value_handle ps) refl at), e, at) refl

    pub other_pushed : (c e : KindChanges) → int_eq (get_or ps i d).value q.value ≡ false → e ≡ record { kind = kind.Param; list = c.list ++ SetValue i (key_bytes key.ParamValue) (quantity_text s q.value) ∷ [] } →
        e ≡ record { kind = kind.Param; list = c.list ++ value_changes ps (q ∷ []) }
    other_pushed c e other more = more ∙ ap (λ (l : List Change). record { kind = kind.Param; list = c.list ++ l }) (sym (other_changed other))

  pub lines_new : (a b : List ℕ) → absent ps (q ∷ []) ≡ q ∷ [] → b ≡ a ++ bytes_of (with_tails (new_record q ∷ [])) → b ≡ a ++ bytes_of (with_tails (map new_record (absent ps (q ∷ []))))
  lines_new a b e is = rw e is

  pub lines_same : (a : List ℕ) → absent ps (q ∷ []) ≡ [] → a ≡ a ++ bytes_of (with_tails (map new_record (absent ps (q ∷ []))))
  lines_same a e = rw e (sym (append-nil a))

  pub added_same : (a : List (ParamValue s)) → absent ps (q ∷ []) ≡ [] → a ≡ a ++ absent ps (q ∷ [])
  added_same a e = rw e (sym (append-nil a))

or_true : (a : Bool) → (a || true) ≡ true
or_true true = refl
or_true false = refl

or_more : (a t b : Bool) → (a || b) ≡ true → (a || (t || b)) ≡ true
or_more true t b e = refl
or_more false true b e = refl
or_more false false b e = e

-- ---- what the book is asked for

module _ {s : ℕ} (ps : List (ParamValue s)) where
  abbrev Exists : List Block → Change → Type 0
  Exists bs c = change_place c < length (records kind.Param bs)

  pub changes_exist : (bs : List Block) (qs : List (ParamValue s)) → length (records kind.Param bs) ≡ length ps → All (Exists bs) (value_changes ps qs)
  changes_exist bs [] len = All-nil (Exists bs)
  changes_exist bs (q ∷ qs) len = elim (cases_Bool (is_value q.value (value_of q.id.0 ps))) [
    | inl t ↦ rw t (changes_exist bs qs len)
    | inr f ↦ rw f (by_position (position (nat_eq q.id.0) (map value_handle ps)) refl (changes_exist bs qs len))
  ]
    where
      by_position : (o : Option ℕ) → position (nat_eq q.id.0) (map value_handle ps) ≡ o → All (Exists bs) (value_changes ps qs) → All (Exists bs) (cons_option (change_at s q.value (position (nat_eq q.id.0) (map value_handle ps))) (value_changes ps qs))
      by_position None at more = rw at more
      by_position (Some i) at more =
          (let below : i < length ps = subst (λ (n : ℕ). i < n) (length-map ps value_handle) (place_below _ _ _ i refl at) in
          rw at (All-cons (Exists bs) (SetValue i (key_bytes key.ParamValue) (quantity_text s q.value)) (value_changes ps qs) (subst (λ (n : ℕ). i < n) (sym len) below) more))

  pub absent_read : IsScale s → (qs : List (ParamValue s)) → All (λ (p : ParamValue s). IsInLimit p.value) qs → All ReadsBack (absent ps qs)
  absent_read scale qs fit =
      let all = All-filter (λ (q : ParamValue s). is_none (value_of q.id.0 ps)) (λ (p : ParamValue s). IsInLimit p.value) qs fit in
      λ k d l. quantity-read_back s (get_or (absent ps qs) k d).value scale (all k d l)

  pub lines_given : IsScale s → (qs : List (ParamValue s)) (lines : List ℕ) → All (λ (p : ParamValue s). IsInLimit p.value) qs → lines ≡ bytes_of (with_tails (map new_record (absent ps qs))) → AreRecords kind.Param lines
  lines_given scale qs lines fit is = rw is (records_given (absent ps qs) (absent_read scale qs fit))

  pub book_changed : IsScale s → (qs : List (ParamValue s)) (lines : List ℕ) (cs : KindChanges) (bs ds : List Block) → IsDistinct nat_eq (map value_handle qs) → length (records kind.Param bs) ≡ length ps →
      All (λ (p : ParamValue s). IsInLimit p.value) qs → lines ≡ bytes_of (with_tails (map new_record (absent ps qs))) → cs ≡ record { kind = kind.Param; list = value_changes ps qs } →
      ds ≡ add_records cs.kind (given_records lines) (all_changed cs.kind cs.list bs) → ds ≡ params_set qs ps bs
  book_changed scale qs lines cs bs ds d len fit il ic e =
      e ∙ ap (λ (c : KindChanges). add_records c.kind (given_records lines) (all_changed c.kind c.list bs)) ic
      ∙ ap (λ (rs : List Rec). add_records kind.Param rs (all_changed kind.Param (value_changes ps qs) bs)) (ap given_records il ∙ records_are (absent ps qs) (absent_read scale qs fit))
      ∙ sym (in_one_list qs ps bs d len)

  -- the same of the changes that are made
  module _ (qs rs : List (ParamValue s)) (cs : KindChanges) (bs : List Block) (ic : cs ≡ record { kind = kind.Param; list = value_changes rs qs }) (ip : rs ≡ ps) (len : length (records kind.Param bs) ≡ length ps) where
    pub made_exist : All (λ (c : Change). change_place c < length (records cs.kind bs)) cs.list
    made_exist = rw ic (rw ip (changes_exist bs qs len))

    module _ (scale : IsScale s) (fit : All (λ (p : ParamValue s). IsInLimit p.value) qs) (lines given : List ℕ) (il : lines ≡ bytes_of (with_tails (map new_record (absent rs qs)))) (same : given ≡ lines) where
      given_lines : given ≡ bytes_of (with_tails (map new_record (absent ps qs)))
      given_lines = same ∙ il ∙ ap (λ (l : List (ParamValue s)). bytes_of (with_tails (map new_record (absent l qs)))) ip

      pub made_given : AreRecords cs.kind given
      made_given = subst (λ (c : KindChanges). AreRecords c.kind given) (sym ic) (lines_given scale qs given fit given_lines)

      pub made_changed : (ds : List Block) → IsDistinct nat_eq (map value_handle qs) → ds ≡ add_records cs.kind (given_records given) (all_changed cs.kind cs.list bs) → ds ≡ params_set qs ps bs
      made_changed ds d e = book_changed scale qs given cs bs ds d len fit given_lines (rw ip at ic) e

  -- ---- handles

  seen_value : (id : ℕ) (w : ℤ) (xs : List (ParamValue s)) → value_of id xs ≡ Some w → seen_in id (map value_handle xs) ≡ true
  seen_value id w [] e = cc
  seen_value id w (x ∷ xs) e = elim (cases_Bool (nat_eq id x.id.0)) [ inl h ↦ rw h refl | inr h ↦ rw h (seen_value id w xs (rw h at e)) ]

  abbrev Stands : List (ParamValue s) → ParamValue s → Type 0
  Stands news p = (seen_in p.id.0 (map value_handle ps) || seen_in p.id.0 (map value_handle news)) ≡ true

  all_stand : (qs : List (ParamValue s)) → All (Stands (absent ps qs)) qs
  all_stand [] = All-nil (Stands [])
  all_stand (q ∷ qs) = by_value (value_of q.id.0 ps) refl (all_stand qs)
    where
      by_value : (o : Option ℤ) → value_of q.id.0 ps ≡ o → All (Stands (absent ps qs)) qs → All (Stands (absent ps (q ∷ qs))) (q ∷ qs)
      by_value None is more =
          (let here : Stands (q ∷ absent ps qs) q = rw (eq-eqb q.id.0 q.id.0 refl) (or_true (seen_in q.id.0 (map value_handle ps))) in
          rw is (All-cons (Stands (q ∷ absent ps qs)) q qs here (λ k d l. or_more (seen_in (get_or qs k d).id.0 (map value_handle ps)) (nat_eq (get_or qs k d).id.0 q.id.0) (seen_in (get_or qs k d).id.0 (map value_handle (absent ps qs))) (more k d l))))
      by_value (Some w) is more =
          (let here : Stands (absent ps qs) q = rw (seen_value q.id.0 w ps is) refl in rw is (All-cons (Stands (absent ps qs)) q qs here more))

  -- each stands once the new ones are added
  pub all_seen : (qs : List (ParamValue s)) (keys : List ℕ) → keys ≡ map value_handle ps ++ map value_handle (absent ps qs) → All (λ (p : ParamValue s). seen_in p.id.0 keys ≡ true) qs
  all_seen qs keys is = λ k d l. ap (seen_in (get_or qs k d).id.0) is ∙ list_any-append (nat_eq (get_or qs k d).id.0) (map value_handle ps) (map value_handle (absent ps qs)) ∙ all_stand qs k d l

  pub keys_added : (qs : List (ParamValue s)) (keys : List ℕ) → keys ≡ map value_handle ps ++ map value_handle (absent ps qs) → keys ≡ map value_handle (ps ++ absent ps qs)
  keys_added qs keys is = is ∙ sym (map-append value_handle ps (absent ps qs))

  pub absent_new : (qs : List (ParamValue s)) (keys : List ℕ) → keys ≡ map value_handle ps → All (λ (p : ParamValue s). seen_in p.id.0 keys ≡ false) (absent ps qs)
  absent_new qs keys is = rw is (go qs)
    where
      go : (rs : List (ParamValue s)) → All (λ (p : ParamValue s). seen_in p.id.0 (map value_handle ps) ≡ false) (absent ps rs)
      go [] = All-nil (λ (p : ParamValue s). seen_in p.id.0 (map value_handle ps) ≡ false)
      go (r ∷ rs) = by_value (value_of r.id.0 ps) refl (go rs)
        where
          by_value : (o : Option ℤ) → value_of r.id.0 ps ≡ o → All (λ (p : ParamValue s). seen_in p.id.0 (map value_handle ps) ≡ false) (absent ps rs) → All (λ (p : ParamValue s). seen_in p.id.0 (map value_handle ps) ≡ false) (absent ps (r ∷ rs))
          by_value None e more = rw e (All-cons (λ (p : ParamValue s). seen_in p.id.0 (map value_handle ps) ≡ false) r (absent ps rs) (new_unseen r.id.0 ps e) more)
          by_value (Some w) e more = rw e more

  apart_kept : (id : ℕ) (qs : List (ParamValue s)) → AllByRecursion (λ y. nat_eq id y ≡ false) (map value_handle qs) → AllByRecursion (λ y. nat_eq id y ≡ false) (map value_handle (absent ps qs))
  apart_kept id [] a = tt
  apart_kept id (q ∷ qs) a = elim (cases_Bool (is_none (value_of q.id.0 ps))) [ inl t ↦ rw t (a.0, apart_kept id qs a.1) | inr f ↦ rw f (apart_kept id qs a.1) ]

  pub absent_differ : (qs : List (ParamValue s)) → IsDistinct nat_eq (map value_handle qs) → IsDistinct nat_eq (map value_handle (absent ps qs))
  absent_differ [] d = d
  absent_differ (q ∷ qs) d =
      let more = absent_differ qs (IsDistinct-tail nat_eq q.id.0 (map value_handle qs) d) in
      elim (cases_Bool (is_none (value_of q.id.0 ps))) [
        | inl t ↦ rw t (IsDistinct-cons nat_eq q.id.0 (map value_handle (absent ps qs)) (apart_kept q.id.0 qs (IsDistinct-head nat_eq q.id.0 (map value_handle qs) d)) more)
        | inr f ↦ rw f more
      ]

  -- what is added: none has a record, and they differ
  pub added_fit : (qs rs xs given : List (ParamValue s)) (keys : List ℕ) → keys ≡ map value_handle ps → IsDistinct nat_eq (map value_handle qs) → xs ≡ absent rs qs → rs ≡ ps → given ≡ xs →
      All (λ (p : ParamValue s). seen_in p.id.0 keys ≡ false) given × IsDistinct nat_eq (map value_handle given)
  added_fit qs rs xs given keys are d ix ip same =
      let is : given ≡ absent ps qs = same ∙ ix ∙ ap (λ (l : List (ParamValue s)). absent l qs) ip in
      rw is (absent_new qs keys are, absent_differ qs d)

  -- values are then set where they stand
  pub values_fit : (qs rs xs given now : List (ParamValue s)) (keys news : List ℕ) → keys ≡ map value_handle ps → xs ≡ absent rs qs → rs ≡ ps → given ≡ xs → now ≡ ps ++ given → news ≡ keys ++ map value_handle given →
      (news ≡ map value_handle now) × All (λ (p : ParamValue s). seen_in p.id.0 news ≡ true) qs
  values_fit qs rs xs given now keys news are ix ip same in_list more =
      let is : given ≡ absent ps qs = same ∙ ix ∙ ap (λ (l : List (ParamValue s)). absent l qs) ip in
      let both : news ≡ map value_handle ps ++ map value_handle (absent ps qs) = more ∙ ap (λ (l : List ℕ). l ++ map value_handle given) are ∙ ap (λ (l : List (ParamValue s)). map value_handle ps ++ map value_handle l) is in
      (keys_added qs news both ∙ ap (map value_handle) (sym (in_list ∙ ap (λ (l : List (ParamValue s)). ps ++ l) is)), all_seen qs news both)

  -- and all are what they are one after the other
  pub values_made : (qs rs xs given now after : List (ParamValue s)) → IsDistinct nat_eq (map value_handle qs) → xs ≡ absent rs qs → rs ≡ ps → given ≡ xs → now ≡ ps ++ given → after ≡ with_params qs now → after ≡ with_params qs ps
  values_made qs rs xs given now after d ix ip same in_list e =
      e ∙ ap (with_params qs) (in_list ∙ ap (λ (l : List (ParamValue s)). ps ++ l) (same ∙ ix ∙ ap (λ (l : List (ParamValue s)). absent l qs) ip)) ∙ list_in_steps qs ps d

-- what is written back through a slice of the whole
pub put_back : {s : ℕ} (n : ℕ) (keys : List ℕ) (now news xs back : List (ParamValue s)) → keys ≡ map value_handle now → keys ≡ map value_handle news → length now ≡ n → back ≡ take n (news ++ xs) → back ≡ news
put_back n keys now news xs back a b len e =
    e ∙ ap (λ (k : ℕ). take k (news ++ xs)) (sym len ∙ sym (length-map now value_handle) ∙ ap length (sym a) ∙ ap length b ∙ length-map news value_handle) ∙ take-append_seam news xs

-- a change is put behind others
pub change_pushed : (s at : ℕ) (v : ℤ) (c e : KindChanges) (k t : List ℕ) → c.kind ≡ kind.Param → k ≡ key_bytes key.ParamValue → t ≡ quantity_text s v → e ≡ record { kind = c.kind; list = c.list ++ SetValue at k t ∷ [] } →
    e ≡ record { kind = kind.Param; list = c.list ++ SetValue at (key_bytes key.ParamValue) (quantity_text s v) ∷ [] }
change_pushed s at v c e k t is_kind is_key is_text more =
    more ∙ ap (λ j. record { kind = j; list = c.list ++ SetValue at k t ∷ [] }) is_kind
    ∙ ap (λ (x : List ℕ). record { kind = kind.Param; list = c.list ++ SetValue at x t ∷ [] }) is_key
    ∙ ap (λ (x : List ℕ). record { kind = kind.Param; list = c.list ++ SetValue at (key_bytes key.ParamValue) x ∷ [] }) is_text

-- a fact of one more element
pub all_more : {X : Type 0} (P : X → Type 0) (xs : List X) (i : ℕ) (d : X) → i < length xs → All P (take i xs) → P (get_or xs i d) → All P (take (i + 1) xs)
all_more P xs i d below all here = rw (take_more xs i d below) (All-push P (take i xs) (get_or xs i d) all here)

pub item_more : {X : Type 0} (P : X → Type 0) (xs : List X) (i : ℕ) (d x : X) → i < length xs → x ≡ get_or xs i d → All P (take i xs) → P x → All P (take (i + 1) xs)
item_more P xs i d x below is all here = all_more P xs i d below all (subst P is here)
