-- Parameters that are set one after the other.
use Rattle.std.proofs.Common.{◌≡◌, inl, inr, ℕ, zero, suc, ◌<◌, List, [], ◌∷◌, ◌++◌, map, length, true, false, nat_eq, Option, Some, None, Ok, refl, sym, ap, ◌∙◌, subst, append_assoc}
use Rattle.std.specs.Prelude.{ℤ}
use Rattle.std.specs.Option.{option_or}
use Rattle.std.specs.Ordering.{int_eq}
use Rattle.std.specs.List.{All, AllByRecursion, IsDistinct, position}
use Rattle.std.proofs.lemmas.Bool.{cases_Bool, eqb-true, eq-eqb, ne_eqb}
use Rattle.std.proofs.lemmas.Bool.Decides.{Decides-int_eq}
use Rattle.std.proofs.lemmas.List.{append-nil, length-map}
use Rattle.std.proofs.lemmas.List.Elements.{All-nil, All-cons, All-head, All-tail}
use Rattle.std.proofs.lemmas.Map.Keys.{IsDistinct-head, IsDistinct-tail}
use Rattle.sk_num.specs.Scale.{IsScale}
use Rattle.sk_num.specs.Spelling.{quantity_text}
use Rattle.sk_num.specs.SpellingLaws.{quantity-read_back, handle-read_back}
use Rattle.sk_types.specs.declared.entity.ParamValue.{ParamValue}
use Rattle.sk_types.specs.Lookups.{value_handle, value_of}
use Rattle.sk_records.specs.declared.kinds.Kind.TheVariants as kind
use Rattle.sk_records.specs.Rows.{Row, with_value}
use Rattle.sk_records.specs.Blocks.{Block, Rec, AllOf, records, changed_at, on_record, add_records}
use Rattle.sk_records.specs.ChangeLists.{all_changed}
use Rattle.sk_records.specs.Written.{IsText}
use Rattle.sk_records.specs.Laws.{records_law, added_law, texts_law}
use Rattle.sk_model.specs.declared.keys.Key.TheVariants as key
use Rattle.sk_model.specs.Keys.{key_bytes}
use Rattle.sk_model.specs.Typed.{Typed, typed}
use Rattle.sk_model.specs.Settable.{IsSettable, ReadsBack, IsStored}
use Rattle.sk_model.specs.Changes.{with_param, new_record, is_value, value_put, param_set, with_params, params_set, absent, value_changes}
use Rattle.sk_model.specs.TypingLaws.Lookups.{Standing, position_missing, position_standing, position_front}
use Rattle.sk_model.specs.TypingLaws.ParamSet.{value_after, stands_same, new_at_end, handles_same, set_typed}
use Rattle.sk_model.specs.TypingLaws.ParamTexts.{value_key, quantity_value, params_given}

or_none : (o : Option ℤ) → option_or o None ≡ o
or_none None = refl
or_none (Some v) = refl

flip : (m n : ℕ) → nat_eq m n ≡ false → nat_eq n m ≡ false
flip m n e = elim (cases_Bool (nat_eq n m)) [ inl t ↦ (let f : nat_eq m n ≡ true = eq-eqb m n (sym (eqb-true n m t)) in cc (f, e)) | inr f ↦ f ]

same_of : (w v : ℤ) → int_eq w v ≡ true → w ≡ v
same_of w v e = (Decides-int_eq w v).0 e

length-changed_at : {X : Type 0} (f : X → X) (i : ℕ) (xs : List X) → length (changed_at f i xs) ≡ length xs
length-changed_at f i [] = refl
length-changed_at f zero (x ∷ xs) = refl
length-changed_at f (suc i) (x ∷ xs) = ap suc (length-changed_at f i xs)

module _ {s : ℕ} where
  -- ---- values

  pub value-append : (id : ℕ) (ps qs : List (ParamValue s)) → value_of id (ps ++ qs) ≡ option_or (value_of id ps) (value_of id qs)
  value-append id [] qs = refl
  value-append id (p ∷ ps) qs = elim (cases_Bool (nat_eq id p.id.0)) [ inl e ↦ rw e refl | inr e ↦ rw e (value-append id ps qs) ]

  -- a handle that none of them has
  not_among : (id : ℕ) (qs : List (ParamValue s)) → AllByRecursion (λ y. nat_eq id y ≡ false) (map value_handle qs) → value_of id qs ≡ None
  not_among id [] apart = refl
  not_among id (q ∷ qs) apart = rw apart.0 (not_among id qs apart.1)

  abbrev Distinct : List (ParamValue s) → Type 0
  Distinct qs = IsDistinct nat_eq (map value_handle qs)

  first_apart : (q : ParamValue s) (qs : List (ParamValue s)) → Distinct (q ∷ qs) → AllByRecursion (λ y. nat_eq q.id.0 y ≡ false) (map value_handle qs)
  first_apart q qs d = IsDistinct-head nat_eq q.id.0 (map value_handle qs) d

  rest_apart : (q : ParamValue s) (qs : List (ParamValue s)) → Distinct (q ∷ qs) → Distinct qs
  rest_apart q qs d = IsDistinct-tail nat_eq q.id.0 (map value_handle qs) d

  -- what was set last counts, else what stood
  pub value_many : (id : ℕ) (qs ps : List (ParamValue s)) → Distinct qs → value_of id (with_params qs ps) ≡ option_or (value_of id qs) (value_of id ps)
  value_many id [] ps d = refl
  value_many id (q ∷ qs) ps d =
      value_many id qs (with_param q.id.0 q.value ps) (rest_apart q qs d)
      ∙ ap (λ (o : Option ℤ). option_or (value_of id qs) o) (value_after q.id.0 id q.value ps)
      ∙ elim (cases_Bool (nat_eq id q.id.0)) [
        | inl e ↦ (let same : id ≡ q.id.0 = eqb-true id q.id.0 e in
            let none : value_of id qs ≡ None = ap (λ (n : ℕ). value_of n qs) same ∙ not_among q.id.0 qs (first_apart q qs d) in
            rw (e, none) refl)
        | inr e ↦ rw e refl
      ]

  -- ---- in one pass

  -- none of them stands
  abbrev NoneIn : List (ParamValue s) → List (ParamValue s) → Type 0
  NoneIn ps [] = Unit {0}
  NoneIn ps (q ∷ qs) = (value_of q.id.0 ps ≡ None) × NoneIn ps qs

  none_more : (news : List (ParamValue s)) (q : ParamValue s) (qs : List (ParamValue s)) → NoneIn news qs → AllByRecursion (λ y. nat_eq q.id.0 y ≡ false) (map value_handle qs) → NoneIn (news ++ q ∷ []) qs
  none_more news q [] none apart = tt
  none_more news q (r ∷ rs) none apart =
      (value-append r.id.0 news (q ∷ []) ∙ rw (none.0, flip q.id.0 r.id.0 apart.0) refl, none_more news q rs none.1 apart.1)

  -- a change of one leaves the others
  module _ (q : ParamValue s) (w : ℤ) (ps : List (ParamValue s)) (stands : value_of q.id.0 ps ≡ Some w) where
    value_kept : (r : ParamValue s) → nat_eq q.id.0 r.id.0 ≡ false → value_of r.id.0 (with_param q.id.0 q.value ps) ≡ value_of r.id.0 ps
    value_kept r apart = value_after q.id.0 r.id.0 q.value ps ∙ rw (flip q.id.0 r.id.0 apart) refl

    absent_kept : (qs : List (ParamValue s)) → AllByRecursion (λ y. nat_eq q.id.0 y ≡ false) (map value_handle qs) → absent (with_param q.id.0 q.value ps) qs ≡ absent ps qs
    absent_kept [] apart = refl
    absent_kept (r ∷ rs) apart = rw (value_kept r apart.0, absent_kept rs apart.1) refl

    changes_kept : (qs : List (ParamValue s)) → AllByRecursion (λ y. nat_eq q.id.0 y ≡ false) (map value_handle qs) → value_changes (with_param q.id.0 q.value ps) qs ≡ value_changes ps qs
    changes_kept [] apart = refl
    changes_kept (r ∷ rs) apart = rw (value_kept r apart.0, handles_same q.id.0 q.value w ps stands, changes_kept rs apart.1) refl

  -- parameters before others
  stands_front : (id : ℕ) (v w : ℤ) (ps news : List (ParamValue s)) → value_of id ps ≡ Some w → with_param id v (ps ++ news) ≡ with_param id v ps ++ news
  stands_front id v w [] news e = cc
  stands_front id v w (p ∷ ps) news e = elim (cases_Bool (nat_eq id p.id.0)) [
    | inl h ↦ rw h refl
    | inr h ↦ rw h (ap (λ l. p ∷ l) (stands_front id v w ps news (rw h at e)))
  ]

  all_of_kind : (rs : List Rec) (q : ParamValue s) → AllOf kind.Param rs → AllOf kind.Param (rs ++ new_record q ∷ [])
  all_of_kind [] q all = (refl, tt)
  all_of_kind (r ∷ rs) q all = (all.0, all_of_kind rs q all.1)

  abbrev text_of : ParamValue s → List Row → List Row
  text_of q = with_value (key_bytes key.ParamValue) (quantity_text s q.value)

  -- news before with some parameters and records added already
  abbrev Goal : List (ParamValue s) → List (ParamValue s) → List (ParamValue s) → List Rec → List Block → Type 0
  Goal qs ps news rs bs = params_set qs (ps ++ news) (add_records kind.Param rs bs) ≡ add_records kind.Param (rs ++ map new_record (absent ps qs)) (all_changed kind.Param (value_changes ps qs) bs)

  module _ (q : ParamValue s) (qs ps news : List (ParamValue s)) (rs : List Rec) (bs : List Block) (apart : AllByRecursion (λ y. nat_eq q.id.0 y ≡ false) (map value_handle qs)) (len : length (records kind.Param bs) ≡ length ps) where
    step_new : value_of q.id.0 ps ≡ None → value_of q.id.0 news ≡ None → AllOf kind.Param rs → Goal qs ps (news ++ q ∷ []) (rs ++ new_record q ∷ []) bs → Goal (q ∷ qs) ps news rs bs
    unfolding param_set
    step_new none none_news all more =
        let gone : value_of q.id.0 (ps ++ news) ≡ None = value-append q.id.0 ps news ∙ rw none none_news in
        let blocks : param_set q.id.0 q.value (ps ++ news) (add_records kind.Param rs bs) ≡ add_records kind.Param (rs ++ new_record q ∷ []) bs
        = rw (gone, position_missing q.id.0 (ps ++ news) gone) (added_law.added_joined kind.Param rs (new_record q ∷ []) bs all (refl, tt)) in
        let list : with_param q.id.0 q.value (ps ++ news) ≡ ps ++ (news ++ q ∷ []) = new_at_end q.id.0 q.value (ps ++ news) gone ∙ append_assoc ps news (q ∷ []) in
        ap (λ (l : List (ParamValue s)). params_set qs l (param_set q.id.0 q.value (ps ++ news) (add_records kind.Param rs bs))) list
        ∙ ap (λ (b : List Block). params_set qs (ps ++ (news ++ q ∷ [])) b) blocks
        ∙ more
        ∙ rw (none, position_missing q.id.0 ps none) (ap (λ (l : List Rec). add_records kind.Param l (all_changed kind.Param (value_changes ps qs) bs)) (append_assoc rs (new_record q ∷ []) (map new_record (absent ps qs))))

    step_same : (w : ℤ) → value_of q.id.0 ps ≡ Some w → int_eq w q.value ≡ true → Goal qs ps news rs bs → Goal (q ∷ qs) ps news rs bs
    unfolding param_set
    step_same w stands same more =
        let here : value_of q.id.0 (ps ++ news) ≡ Some w = value-append q.id.0 ps news ∙ rw stands refl in
        let blocks : param_set q.id.0 q.value (ps ++ news) (add_records kind.Param rs bs) ≡ add_records kind.Param rs bs = rw (here, same) refl in
        let list : with_param q.id.0 q.value (ps ++ news) ≡ ps ++ news = stands_same q.id.0 q.value (ps ++ news) (here ∙ ap Some (same_of w q.value same)) in
        ap (λ (l : List (ParamValue s)). params_set qs l (param_set q.id.0 q.value (ps ++ news) (add_records kind.Param rs bs))) list
        ∙ ap (λ (b : List Block). params_set qs (ps ++ news) b) blocks
        ∙ more
        ∙ rw (stands, same) refl

    step_other : (w : ℤ) → value_of q.id.0 ps ≡ Some w → int_eq w q.value ≡ false → (stand : Standing q.id.0 ps) → Goal qs (with_param q.id.0 q.value ps) news rs (on_record kind.Param stand.place (text_of q) bs) → Goal (q ∷ qs) ps news rs bs
    unfolding param_set
    step_other w stands other stand more =
        let here : value_of q.id.0 (ps ++ news) ≡ Some w = value-append q.id.0 ps news ∙ rw stands refl in
        let further : Standing q.id.0 (ps ++ news) = position_standing q.id.0 w (ps ++ news) here in
        let where_it : further.place ≡ stand.place = position_front q.id.0 stand.place further.place w ps news stands stand.at further.at in
        let within : stand.place < length (records kind.Param bs) = subst (λ (n : ℕ). stand.place < n) (sym len) stand.within in
        let blocks : param_set q.id.0 q.value (ps ++ news) (add_records kind.Param rs bs) ≡ add_records kind.Param rs (on_record kind.Param stand.place (text_of q) bs)
        = rw (here, other, further.at) (ap (λ (n : ℕ). on_record kind.Param n (text_of q) (add_records kind.Param rs bs)) where_it ∙ added_law.changed_added kind.Param stand.place (text_of q) rs bs within) in
        let list : with_param q.id.0 q.value (ps ++ news) ≡ with_param q.id.0 q.value ps ++ news = stands_front q.id.0 q.value w ps news stands in
        ap (λ (l : List (ParamValue s)). params_set qs l (param_set q.id.0 q.value (ps ++ news) (add_records kind.Param rs bs))) list
        ∙ ap (λ (b : List Block). params_set qs (with_param q.id.0 q.value ps ++ news) b) blocks
        ∙ more
        ∙ rw (absent_kept q w ps stands qs apart, changes_kept q w ps stands qs apart) (rw (stands, other, stand.at) refl)

    length_kept : (w : ℤ) → value_of q.id.0 ps ≡ Some w → (i : ℕ) → length (records kind.Param (on_record kind.Param i (text_of q) bs)) ≡ length (with_param q.id.0 q.value ps)
    length_kept w stands i =
        ap length (records_law.changed_same kind.Param i (text_of q) bs) ∙ length-changed_at (text_of q) i (records kind.Param bs) ∙ len
        ∙ sym (length-map ps value_handle) ∙ ap length (sym (handles_same q.id.0 q.value w ps stands)) ∙ length-map (with_param q.id.0 q.value ps) value_handle

  one_pass : (qs ps news : List (ParamValue s)) (rs : List Rec) (bs : List Block) → Distinct qs → NoneIn news qs → AllOf kind.Param rs → length (records kind.Param bs) ≡ length ps → Goal qs ps news rs bs
  one_pass [] ps news rs bs d none all len = sym (ap (λ (l : List Rec). add_records kind.Param l bs) (append-nil rs))
  one_pass (q ∷ qs) ps news rs bs d none all len =
      by_value (value_of q.id.0 ps) refl
      (λ news' rs' none' all'. one_pass qs ps news' rs' bs (rest_apart q qs d) none' all' len)
      (λ ps' bs' len'. one_pass qs ps' news rs bs' (rest_apart q qs d) none.1 all len')
    where
      by_value : (o : Option ℤ) → value_of q.id.0 ps ≡ o
          → ((news' : List (ParamValue s)) (rs' : List Rec) → NoneIn news' qs → AllOf kind.Param rs' → Goal qs ps news' rs' bs)
          → ((ps' : List (ParamValue s)) (bs' : List Block) → length (records kind.Param bs') ≡ length ps' → Goal qs ps' news rs bs')
          → Goal (q ∷ qs) ps news rs bs
      by_value None is more other = step_new q qs ps news rs bs (first_apart q qs d) len is none.0 all (more (news ++ q ∷ []) (rs ++ new_record q ∷ []) (none_more news q qs none.1 (first_apart q qs d)) (all_of_kind rs q all))
      by_value (Some w) is more other = elim (cases_Bool (int_eq w q.value)) [
        | inl same ↦ step_same q qs ps news rs bs (first_apart q qs d) len w is same (other ps bs len)
        | inr differs ↦ (let stand : Standing q.id.0 ps = position_standing q.id.0 w ps is in
            step_other q qs ps news rs bs (first_apart q qs d) len w is differs stand
            (other (with_param q.id.0 q.value ps) (on_record kind.Param stand.place (text_of q) bs) (length_kept q qs ps news rs bs (first_apart q qs d) len w is stand.place)))
      ]

  none_in : (qs : List (ParamValue s)) → NoneIn [] qs
  none_in [] = tt
  none_in (q ∷ qs) = (refl, none_in qs)

  -- those that stand get their values, and the others are added in one list
  pub in_one_list : (qs ps : List (ParamValue s)) (bs : List Block) → Distinct qs → length (records kind.Param bs) ≡ length ps →
      params_set qs ps bs ≡ add_records kind.Param (map new_record (absent ps qs)) (all_changed kind.Param (value_changes ps qs) bs)
  in_one_list qs ps bs d len =
      ap (λ (l : List (ParamValue s)). params_set qs l bs) (sym (append-nil ps)) ∙ one_pass qs ps [] [] bs d (none_in qs) tt len

  -- the typed list in two steps: the new ones first, then every value
  pub list_in_steps : (qs ps : List (ParamValue s)) → Distinct qs → with_params qs (ps ++ absent ps qs) ≡ with_params qs ps
  list_in_steps [] ps d = ap (λ (l : List (ParamValue s)). l) (append-nil ps)
  list_in_steps (q ∷ qs) ps d = by_value (value_of q.id.0 ps) refl (list_in_steps qs (ps ++ q ∷ []) (rest_apart q qs d)) (list_in_steps qs (with_param q.id.0 q.value ps) (rest_apart q qs d))
    where
      by_value : (o : Option ℤ) → value_of q.id.0 ps ≡ o → with_params qs ((ps ++ q ∷ []) ++ absent (ps ++ q ∷ []) qs) ≡ with_params qs (ps ++ q ∷ []) → with_params qs (with_param q.id.0 q.value ps ++ absent (with_param q.id.0 q.value ps) qs) ≡ with_params qs (with_param q.id.0 q.value ps)
          → with_params (q ∷ qs) (ps ++ absent ps (q ∷ qs)) ≡ with_params (q ∷ qs) ps
      by_value None is new stands =
          (let first : with_param q.id.0 q.value (ps ++ (q ∷ absent ps qs)) ≡ ps ++ (q ∷ absent ps qs) = stands_same q.id.0 q.value (ps ++ (q ∷ absent ps qs)) (value-append q.id.0 ps (q ∷ absent ps qs) ∙ rw (is, eq-eqb q.id.0 q.id.0 refl) refl) in
          rw is (ap (with_params qs) first
          ∙ ap (λ (l : List (ParamValue s)). with_params qs l) (sym (append_assoc ps (q ∷ []) (absent ps qs)) ∙ ap (λ (l : List (ParamValue s)). (ps ++ q ∷ []) ++ l) (sym (absent_new qs (first_apart q qs d))))
          ∙ new
          ∙ ap (with_params qs) (sym (new_at_end q.id.0 q.value ps is))))
        where
          absent_new : (rs : List (ParamValue s)) → AllByRecursion (λ y. nat_eq q.id.0 y ≡ false) (map value_handle rs) → absent (ps ++ q ∷ []) rs ≡ absent ps rs
          absent_new [] apart = refl
          absent_new (r ∷ rs) apart = rw (value-append r.id.0 ps (q ∷ []), flip q.id.0 r.id.0 apart.0, or_none (value_of r.id.0 ps), absent_new rs apart.1) refl
      by_value (Some w) is new stands =
          rw is (ap (with_params qs) (stands_front q.id.0 q.value w ps (absent ps qs) is)
          ∙ ap (λ (l : List (ParamValue s)). with_params qs (with_param q.id.0 q.value ps ++ l)) (sym (absent_kept q w ps is qs (first_apart q qs d)))
          ∙ stands)

  -- ---- once more

  pub all_stored : (qs ps : List (ParamValue s)) → Distinct qs → All (IsStored (with_params qs ps)) qs
  all_stored [] ps d = All-nil (IsStored ps)
  all_stored (q ∷ qs) ps d =
      let none : value_of q.id.0 qs ≡ None = not_among q.id.0 qs (first_apart q qs d) in
      let first : value_of q.id.0 (with_param q.id.0 q.value ps) ≡ Some q.value = value_after q.id.0 q.id.0 q.value ps ∙ rw (eq-eqb q.id.0 q.id.0 refl) refl in
      All-cons (IsStored (with_params (q ∷ qs) ps)) q qs (value_many q.id.0 qs (with_param q.id.0 q.value ps) (rest_apart q qs d) ∙ rw (none, first) refl)
      (all_stored qs (with_param q.id.0 q.value ps) (rest_apart q qs d))

  pub params_same : (qs ps : List (ParamValue s)) → All (IsStored ps) qs → with_params qs ps ≡ ps
  params_same [] ps all = refl
  params_same (q ∷ qs) ps all = ap (with_params qs) (stands_same q.id.0 q.value ps (All-head (IsStored ps) q qs all)) ∙ params_same qs ps (All-tail (IsStored ps) q qs all)

  stands : (q : ParamValue s) (ps : List (ParamValue s)) (bs : List Block) → IsStored ps q → param_set q.id.0 q.value ps bs ≡ bs
  unfolding param_set
  stands q ps bs e = rw (e, (Decides-int_eq q.value q.value).1 refl) refl

  pub params_blocks : (qs ps : List (ParamValue s)) (bs : List Block) → All (IsStored ps) qs → params_set qs ps bs ≡ bs
  params_blocks [] ps bs all = refl
  params_blocks (q ∷ qs) ps bs all =
      ap (λ (os : List (ParamValue s)). params_set qs os (param_set q.id.0 q.value ps bs)) (stands_same q.id.0 q.value ps (All-head (IsStored ps) q qs all))
      ∙ ap (λ (cs : List Block). params_set qs ps cs) (stands q ps bs (All-head (IsStored ps) q qs all))
      ∙ params_blocks qs ps bs (All-tail (IsStored ps) q qs all)

module _ {s : ℕ} (scale : IsScale s) where
  reads_back : (q : ParamValue s) → IsSettable q → ReadsBack q
  reads_back q is = quantity-read_back s q.value scale is.value

  -- ---- what is typed

  pub params_typed : (qs : List (ParamValue s)) (bs : List Block) (l : Typed s) → All IsSettable qs → typed s bs ≡ Ok l → typed s (params_set qs l.params bs) ≡ Ok (record l { params = with_params qs l.params })
  params_typed [] bs l all e = e
  params_typed (q ∷ qs) bs l all e =
      let is = All-head IsSettable q qs all in
      params_typed qs (param_set q.id.0 q.value l.params bs) (record l { params = with_param q.id.0 q.value l.params }) (All-tail IsSettable q qs all)
      (set_typed s q.id.0 q.value bs l e (ne_eqb q.id.0 0 is.some) (handle-read_back q.id.0 is.handle) (reads_back q is))

  -- ---- a text stays one

  put_text : (q : ParamValue s) (bs : List Block) (at : Option ℕ) → IsSettable q → IsText bs → IsText (value_put s q.id.0 q.value at bs)
  put_text q bs None is text = texts_law.added kind.Param (new_record q ∷ []) bs (params_given (q ∷ []) (All-cons ReadsBack q [] (reads_back q is) (All-nil ReadsBack))) text
  put_text q bs (Some place) is text =
      texts_law.changed kind.Param place (with_value (key_bytes key.ParamValue) (quantity_text s q.value)) bs
      (texts_law.value_keeps kind.Param (key_bytes key.ParamValue) (quantity_text s q.value) value_key (quantity_value s (quantity_text s q.value) q.value (reads_back q is))) text

  set_text : (q : ParamValue s) (ps : List (ParamValue s)) (bs : List Block) → IsSettable q → IsText bs → IsText (param_set q.id.0 q.value ps bs)
  unfolding param_set
  set_text q ps bs is text = elim (cases_Bool (is_value q.value (value_of q.id.0 ps))) [ inl t ↦ rw t text | inr f ↦ rw f (put_text q bs (position (nat_eq q.id.0) (map value_handle ps)) is text) ]

  pub params_text : (qs ps : List (ParamValue s)) (bs : List Block) → All IsSettable qs → IsText bs → IsText (params_set qs ps bs)
  params_text [] ps bs all text = text
  params_text (q ∷ qs) ps bs all text =
      params_text qs (with_param q.id.0 q.value ps) (param_set q.id.0 q.value ps bs) (All-tail IsSettable q qs all) (set_text q ps bs (All-head IsSettable q qs all) text)
