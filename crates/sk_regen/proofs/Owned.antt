-- The parameters that groups leave: each its own, and all of them stand.
use Rattle.std.proofs.Common.{◌≡◌, inl, inr, ℕ, List, [], ◌∷◌, ◌++◌, map, Bool, true, false, nat_eq, Some, refl, sym, ap, ◌∙◌, subst}
use Rattle.std.specs.Prelude.{ℤ, flat_map, ◌||◌}
use Rattle.std.specs.List.{All, AllByRecursion, IsDistinct}
use Rattle.std.proofs.lemmas.Bool.{cases_Bool, eqb-true}
use Rattle.std.proofs.lemmas.List.{map-append}
use Rattle.std.proofs.lemmas.List.Elements.{All-head, All-tail}
use Rattle.std.proofs.lemmas.Map.Keys.{IsDistinct-head, IsDistinct-tail, IsDistinct-cons}
use Rattle.sk_types.specs.declared.handle.GroupId.{GroupId}
use Rattle.sk_types.specs.declared.handle.ParamId.{ParamId}
use Rattle.sk_types.specs.declared.entity.ParamValue.{ParamValue}
use Rattle.sk_types.specs.declared.entity.Numbers.{Numbers}
use Rattle.sk_types.specs.Lookups.{param_handle, value_handle, value_of}
use Rattle.sk_model.specs.Chain.{seen_in}
use Rattle.sk_model.specs.Changes.{with_param, with_params}
use Rattle.sk_model.specs.Settable.{IsStored}
use Rattle.sk_model.specs.TypingLaws.{set_params_law}
use Rattle.sk_regen.specs.Works.{Works}
use Rattle.sk_regen.specs.Regeneration.{Left, State, taken, started, found, left_by, folded}
use Rattle.sk_regen.specs.FoldLaws.{AllStored, Each}
use Rattle.sk_regen.proofs.Placed.{id_of, ids_placed}
use Rattle.sk_regen.proofs.Joined.{NoParam, value_other}
use Rattle.sk_regen.proofs.Folded.{ids_started}

-- ---- handles that differ

apart-append : (x : ℕ) (xs ys : List ℕ) → AllByRecursion (λ y. nat_eq x y ≡ false) (xs ++ ys) → AllByRecursion (λ y. nat_eq x y ≡ false) xs × AllByRecursion (λ y. nat_eq x y ≡ false) ys
apart-append x [] ys a = (tt, a)
apart-append x (z ∷ zs) ys a = let is = apart-append x zs ys a.1 in ((a.0, is.0), is.1)

abbrev AllApart : List ℕ → List ℕ → Type 0
AllApart [] ys = Unit {0}
AllApart (x ∷ xs) ys = AllByRecursion (λ y. nat_eq x y ≡ false) ys × AllApart xs ys

all_apart : (xs ys : List ℕ) → IsDistinct nat_eq (xs ++ ys) → AllApart xs ys
all_apart [] ys d = tt
all_apart (x ∷ xs) ys d = ((apart-append x xs ys (IsDistinct-head nat_eq x (xs ++ ys) d)).1, all_apart xs ys (IsDistinct-tail nat_eq x (xs ++ ys) d))

behind_distinct : (xs ys : List ℕ) → IsDistinct nat_eq (xs ++ ys) → IsDistinct nat_eq ys
behind_distinct [] ys d = d
behind_distinct (x ∷ xs) ys d = behind_distinct xs ys (IsDistinct-tail nat_eq x (xs ++ ys) d)

front_distinct : (xs ys : List ℕ) → IsDistinct nat_eq (xs ++ ys) → IsDistinct nat_eq xs
unfolding IsDistinct
front_distinct [] ys d = search
front_distinct (x ∷ xs) ys d =
    IsDistinct-cons nat_eq x xs (apart-append x xs ys (IsDistinct-head nat_eq x (xs ++ ys) d)).0 (front_distinct xs ys (IsDistinct-tail nat_eq x (xs ++ ys) d))

or_right : (a b : Bool) → a ≡ false → (a || b) ≡ true → b ≡ true
or_right true b e h = cc
or_right false b e h = h

-- each of them stands among the handles
abbrev pub Stand : List ℕ → List ParamId → Type 0
Stand ids [] = Unit {0}
Stand ids (p ∷ ps) = (seen_in p.0 ids ≡ true) × Stand ids ps

pub stand-all : (ids : List ℕ) (ps : List ParamId) → All (λ (p : ParamId). seen_in p.0 ids ≡ true) ps → Stand ids ps
stand-all ids [] a = tt
stand-all ids (p ∷ ps) a = (All-head (λ (p : ParamId). seen_in p.0 ids ≡ true) p ps a, stand-all ids ps (All-tail (λ (p : ParamId). seen_in p.0 ids ≡ true) p ps a))

module _ {s : ℕ} where
  abbrev handles : List (ParamValue s) → List ℕ
  handles ps = map value_handle ps

  same_handles : (ps : List (ParamValue s)) → map param_handle (map id_of ps) ≡ handles ps
  same_handles [] = refl
  same_handles (p ∷ ps) = ap (λ l. p.id.0 ∷ l) (same_handles ps)

  -- ---- handles stay

  handle_stays : (id : ℕ) (v : ℤ) (ps : List (ParamValue s)) → seen_in id (handles ps) ≡ true → handles (with_param id v ps) ≡ handles ps
  handle_stays id v [] e = cc
  handle_stays id v (p ∷ ps) e = elim (cases_Bool (nat_eq id p.id.0)) [
    | inl t ↦ rw t refl
    | inr f ↦ rw f (ap (λ l. p.id.0 ∷ l) (handle_stays id v ps (or_right (nat_eq id p.id.0) (seen_in id (handles ps)) f e)))
  ]

  pub handles_stay : (qs ps : List (ParamValue s)) → Stand (handles ps) (map id_of qs) → handles (with_params qs ps) ≡ handles ps
  handles_stay [] ps a = refl
  handles_stay (q ∷ qs) ps a =
      let e : handles (with_param q.id.0 q.value ps) ≡ handles ps = handle_stays q.id.0 q.value ps a.0 in
      handles_stay qs (with_param q.id.0 q.value ps) (subst (λ (ids : List ℕ). Stand ids (map id_of qs)) (sym e) a.1) ∙ e

  -- ---- values stay

  none_of : (h : ℕ) (ids : List ParamId) (ps : List (ParamValue s)) → map id_of ps ≡ ids → AllByRecursion (λ y. nat_eq h y ≡ false) (map param_handle ids) → NoParam h ps
  none_of h ids [] e a = tt
  none_of h [] (p ∷ ps) e a = cc
  none_of h (i ∷ ids) (p ∷ ps) e a =
      (ap (λ (k : ℕ). nat_eq h k) (ap (λ (j : ParamId). j.0) (cons_head e)) ∙ a.0, none_of h ids ps (cons_tail e) a.1)
    where
      cons_head : {x y : ParamId} {xs ys : List ParamId} → x ∷ xs ≡ y ∷ ys → x ≡ y
      cons_head e = cc

      cons_tail : {x y : ParamId} {xs ys : List ParamId} → x ∷ xs ≡ y ∷ ys → xs ≡ ys
      cons_tail e = cc

  stored-all : (now qs : List (ParamValue s)) → All (IsStored now) qs → AllStored now qs
  stored-all now [] a = tt
  stored-all now (q ∷ qs) a = (All-head (IsStored now) q qs a, stored-all now qs (All-tail (IsStored now) q qs a))

  -- what is stored of all of them is stored of those that stand among them
  pub stored-through : (now all : List (ParamValue s)) → AllStored now all → (h : ℕ) (v : ℤ) → value_of h all ≡ Some v → value_of h now ≡ Some v
  stored-through now [] a h v e = cc
  stored-through now (p ∷ ps) a h v e = elim (cases_Bool (nat_eq h p.id.0)) [
    | inl t ↦ (let here : Some p.value ≡ Some v = rw t at e in ap (λ (k : ℕ). value_of k now) (eqb-true h p.id.0 t) ∙ a.0 ∙ here)
    | inr f ↦ stored-through now ps a.1 h v (rw f at e)
  ]

  pub all-through : (now all ps : List (ParamValue s)) → AllStored now all → AllStored all ps → AllStored now ps
  all-through now all [] a b = tt
  all-through now all (p ∷ ps) a b = (stored-through now all a p.id.0 p.value b.0, all-through now all ps a b.1)

module _ {s : ℕ} (w : Works s) (stored : List (ParamValue s)) where
  pub left_ids : (n : Numbers s) (g : GroupId) → map id_of (left_by w stored n g).params ≡ w.own g
  left_ids n g = ids_placed s (w.is_unknown g) (started w stored n g) (found w n g (started w stored n g)).point ∙ ids_started s w stored n g (w.own g)

  -- the handles stay
  abbrev pub AllStand : List ℕ → List GroupId → Type 0
  AllStand ids [] = Unit {0}
  AllStand ids (g ∷ gs) = Stand ids (w.own g) × AllStand ids gs

  pub folded_handles : (order : List GroupId) (st : State s) → AllStand (map value_handle st.numbers.params) order → map value_handle (folded (left_by w stored) order st).numbers.params ≡ map value_handle st.numbers.params
  folded_handles [] st a = refl
  folded_handles (g ∷ gs) st a =
      let x : Left s = left_by w stored st.numbers g in
      let e : map value_handle (with_params x.params st.numbers.params) ≡ map value_handle st.numbers.params =
      handles_stay x.params st.numbers.params (subst (Stand (map value_handle st.numbers.params)) (sym (left_ids st.numbers g)) a.0) in
      folded_handles gs (taken st x) (subst (λ (ids : List ℕ). AllStand ids gs) (sym e) a.1) ∙ e

  -- ---- each group's values stand in the end

  untouched : (h : ℕ) (order : List GroupId) (st : State s) → AllByRecursion (λ y. nat_eq h y ≡ false) (map param_handle (flat_map w.own order)) → value_of h (folded (left_by w stored) order st).numbers.params ≡ value_of h st.numbers.params
  untouched h [] st a = refl
  untouched h (g ∷ gs) st a =
      let x : Left s = left_by w stored st.numbers g in
      let is = apart-append h (map param_handle (w.own g)) (map param_handle (flat_map w.own gs)) (subst (AllByRecursion (λ (y : ℕ). nat_eq h y ≡ false)) (map-append param_handle (w.own g) (flat_map w.own gs)) a) in
      untouched h gs (taken st x) is.1 ∙ value_other h x.params st.numbers.params (none_of h (w.own g) x.params (left_ids st.numbers g) is.0)

  all_untouched : (order : List GroupId) (st : State s) (ids : List ParamId) (ps : List (ParamValue s)) → map id_of ps ≡ ids → AllApart (map param_handle ids) (map param_handle (flat_map w.own order))
      → AllStored st.numbers.params ps → AllStored (folded (left_by w stored) order st).numbers.params ps
  all_untouched order st ids [] e a all = tt
  all_untouched order st [] (p ∷ ps) e a all = cc
  all_untouched order st (i ∷ ids) (p ∷ ps) e a all = (
    untouched p.id.0 order st (subst (λ (k : ℕ). AllByRecursion (λ y. nat_eq k y ≡ false) (map param_handle (flat_map w.own order))) (sym (ap (λ (j : ParamId). j.0) (cons_head e))) a.0) ∙ all.0,
    all_untouched order st ids ps (cons_tail e) a.1 all.1,
  )
    where
      cons_head : {x y : ParamId} {xs ys : List ParamId} → x ∷ xs ≡ y ∷ ys → x ≡ y
      cons_head e = cc

      cons_tail : {x y : ParamId} {xs ys : List ParamId} → x ∷ xs ≡ y ∷ ys → xs ≡ ys
      cons_tail e = cc

  pub each_stored : (order : List GroupId) (st : State s) → IsDistinct nat_eq (map param_handle (flat_map w.own order))
      → Each (left_by w stored) (λ n g x. AllStored (folded (left_by w stored) order st).numbers.params x.params) order st
  each_stored [] st d = tt
  each_stored (g ∷ gs) st d =
      let x : Left s = left_by w stored st.numbers g in
      let both : IsDistinct nat_eq (map param_handle (w.own g) ++ map param_handle (flat_map w.own gs)) = subst (IsDistinct nat_eq) (map-append param_handle (w.own g) (flat_map w.own gs)) d in
      let own : IsDistinct nat_eq (map value_handle x.params) = subst (IsDistinct nat_eq) (sym (ap (map param_handle) (left_ids st.numbers g)) ∙ same_handles x.params) (front_distinct (map param_handle (w.own g)) (map param_handle (flat_map w.own gs)) both) in (
        all_untouched gs (taken st x) (w.own g) x.params (left_ids st.numbers g) (all_apart (map param_handle (w.own g)) (map param_handle (flat_map w.own gs)) both)
            (stored-all (with_params x.params st.numbers.params) x.params (set_params_law.stored s x.params st.numbers.params own)),
        each_stored gs (taken st x) (behind_distinct (map param_handle (w.own g)) (map param_handle (flat_map w.own gs)) both),
      )
