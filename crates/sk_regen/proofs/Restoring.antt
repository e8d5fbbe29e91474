-- Numbers that are set and put back.
use Rattle.std.proofs.Common.{◌≡◌, inl, inr, ℕ, List, [], ◌∷◌, map, true, false, nat_eq, Option, Some, None, refl, sym, ap, ◌∙◌, subst}
use Rattle.std.specs.Prelude.{ℤ, pos, unwrap_or}
use Rattle.std.specs.List.{All, AllByRecursion, IsDistinct}
use Rattle.std.specs.Option.{option_or}
use Rattle.std.proofs.lemmas.Bool.{cases_Bool, eqb-true, eq-eqb}
use Rattle.std.proofs.lemmas.List.Elements.{All-head, All-tail}
use Rattle.std.proofs.lemmas.Map.Keys.{IsDistinct-head, IsDistinct-tail}
use Rattle.sk_types.specs.declared.entity.Act.{Act}
use Rattle.sk_types.specs.declared.entity.ParamValue.{ParamValue}
use Rattle.sk_types.specs.Lookups.{value_handle, value_of, act_at}
use Rattle.sk_model.specs.Chain.{seen_in}
use Rattle.sk_model.specs.Changes.{with_params}
use Rattle.sk_model.specs.TypingLaws.{set_params_law}
use Rattle.sk_regen.specs.Ground.{stands_among}
use Rattle.sk_regen.specs.Regeneration.{with_act}

-- ---- the reading of one entity

module _ {s : ℕ} (a : Act s) where
  same-act : (x : Act s) → Some x ≡ Some a → x ≡ a
  same-act x e = cc

  -- an entity that stands so stays
  pub act-stays : (acts : List (Act s)) → act_at a.entity.0 acts ≡ Some a → with_act a acts ≡ acts
  act-stays [] e = refl
  act-stays (x ∷ xs) e = elim (cases_Bool (nat_eq a.entity.0 x.entity.0)) [
    | inl t ↦ rw t (ap (λ (y : Act s). y ∷ xs) (sym (same-act x (rw t at e))))
    | inr f ↦ rw f (ap (λ l. x ∷ l) (act-stays xs (rw f at e)))
  ]

  -- one that is set and put back
  pub act-put-back : (b : Act s) (acts : List (Act s)) → b.entity.0 ≡ a.entity.0 → act_at a.entity.0 acts ≡ Some a → with_act a (with_act b acts) ≡ acts
  act-put-back b [] h e = refl
  act-put-back b (x ∷ xs) h e = elim (cases_Bool (nat_eq a.entity.0 x.entity.0)) [
    | inl t ↦ (let u : nat_eq b.entity.0 x.entity.0 ≡ true = ap (λ (n : ℕ). nat_eq n x.entity.0) h ∙ t in
        let v : nat_eq a.entity.0 b.entity.0 ≡ true = eq-eqb a.entity.0 b.entity.0 (sym h) in
        rw (u, v) (ap (λ (y : Act s). y ∷ xs) (sym (same-act x (rw t at e)))))
    | inr f ↦ (let u : nat_eq b.entity.0 x.entity.0 ≡ false = ap (λ (n : ℕ). nat_eq n x.entity.0) h ∙ f in
        rw (u, f) (ap (λ l. x ∷ l) (act-put-back b xs h (rw f at e))))
  ]

pub act-not-there : {s : ℕ} (b : Act s) (acts : List (Act s)) → act_at b.entity.0 acts ≡ None → with_act b acts ≡ acts
act-not-there b [] e = refl
act-not-there b (x ∷ xs) e = elim (cases_Bool (nat_eq b.entity.0 x.entity.0)) [
  | inl t ↦ (let no : Some x ≡ None = rw t at e in cc no)
  | inr f ↦ rw f (ap (λ l. x ∷ l) (act-not-there b xs (rw f at e)))
]

-- what is found has the handle
pub act-found : {s : ℕ} (n : ℕ) (acts : List (Act s)) (a : Act s) → act_at n acts ≡ Some a → a.entity.0 ≡ n
act-found n [] a e = cc
act-found n (x ∷ xs) a e = elim (cases_Bool (nat_eq n x.entity.0)) [
  | inl t ↦ (let same : Some x ≡ Some a = rw t at e in ap (λ (y : Act _). y.entity.0) (sym (same-act a x same)) ∙ sym (eqb-true n x.entity.0 t))
  | inr f ↦ act-found n xs a (rw f at e)
]

-- ---- parameters

module _ {s : ℕ} where
  -- a handle that isn't there has no value
  no-value : (n : ℕ) (ps : List (ParamValue s)) → AllByRecursion (λ y. nat_eq n y ≡ false) (map value_handle ps) → value_of n ps ≡ None
  no-value n [] a = refl
  no-value n (p ∷ ps) a = rw a.0 (no-value n ps a.1)

  pub seen-value : (n : ℕ) (ps : List (ParamValue s)) → seen_in n (map value_handle ps) ≡ true → value_of n ps ≡ Some (unwrap_or (value_of n ps) (pos 0))
  seen-value n [] e = cc
  seen-value n (p ∷ ps) e = elim (cases_Bool (nat_eq n p.id.0)) [
    | inl t ↦ rw t refl
    | inr f ↦ rw f (seen-value n ps (rw f at e))
  ]

  same-param : (x y : ParamValue s) → x.id.0 ≡ y.id.0 → x.value ≡ y.value → x ≡ y
  same-param x y e f = ap (λ (n : ℕ). record { id = record { 0 = n }; value = x.value }) e ∙ ap (λ (v : ℤ). record { id = y.id; value = v }) f

  cons-same : (x y : ParamValue s) (xs ys : List (ParamValue s)) → x ≡ y → xs ≡ ys → x ∷ xs ≡ y ∷ ys
  cons-same x y xs ys e f = cc (e, f)

  same-head : (x y : ParamValue s) (xs ys : List (ParamValue s)) → map value_handle (x ∷ xs) ≡ map value_handle (y ∷ ys) → x.id.0 ≡ y.id.0
  same-head x y xs ys e = cc

  same-tail : (x y : ParamValue s) (xs ys : List (ParamValue s)) → map value_handle (x ∷ xs) ≡ map value_handle (y ∷ ys) → map value_handle xs ≡ map value_handle ys
  same-tail x y xs ys e = cc

  -- the same handles, each once, with the same values
  pub same-values : (xs ys : List (ParamValue s)) → map value_handle xs ≡ map value_handle ys → IsDistinct nat_eq (map value_handle xs) → ((n : ℕ) → value_of n xs ≡ value_of n ys) → xs ≡ ys
  same-values [] [] h d e = refl
  same-values [] (y ∷ ys) h d e = cc
  same-values (x ∷ xs) [] h d e = cc
  same-values (x ∷ xs) (y ∷ ys) h d e =
      let id : x.id.0 ≡ y.id.0 = same-head x y xs ys h in
      let tail : map value_handle xs ≡ map value_handle ys = same-tail x y xs ys h in
      let self : nat_eq x.id.0 x.id.0 ≡ true = eq-eqb x.id.0 x.id.0 refl in
      let other : nat_eq x.id.0 y.id.0 ≡ true = eq-eqb x.id.0 y.id.0 id in
      let values : Some x.value ≡ Some y.value = rw (self, other) at (e x.id.0) in
      let apart = IsDistinct-head nat_eq x.id.0 (map value_handle xs) d in
      cons-same x y xs ys (same-param x y id cc) (same-values xs ys tail (IsDistinct-tail nat_eq x.id.0 (map value_handle xs) d) (λ n. elim (cases_Bool (nat_eq n x.id.0)) [
        | inl t ↦ (let is : x.id.0 ≡ n = sym (eqb-true n x.id.0 t) in
            subst (λ (k : ℕ). value_of k xs ≡ value_of k ys) is (no-value x.id.0 xs apart ∙ sym (no-value x.id.0 ys (subst (AllByRecursion (λ k. nat_eq x.id.0 k ≡ false)) tail apart))))
        | inr f ↦ (let g : nat_eq n y.id.0 ≡ false = ap (nat_eq n) (sym id) ∙ f in rw (f, g) at (e n))
      ]))

  pub among-handles : (ps qs : List (ParamValue s)) → map value_handle (map (stands_among ps) qs) ≡ map value_handle qs
  among-handles ps [] = refl
  among-handles ps (q ∷ qs) = ap (λ l. q.id.0 ∷ l) (among-handles ps qs)

  among-values : (n : ℕ) (ps qs : List (ParamValue s)) → All (λ (q : ParamValue s). seen_in q.id.0 (map value_handle ps) ≡ true) qs →
      option_or (value_of n (map (stands_among ps) qs)) (option_or (value_of n qs) (value_of n ps)) ≡ value_of n ps
  among-values n ps [] a = refl
  among-values n ps (q ∷ qs) a = elim (cases_Bool (nat_eq n q.id.0)) [
    | inl t ↦ (let is : n ≡ q.id.0 = eqb-true n q.id.0 t in
        rw t (sym (seen-value q.id.0 ps (All-head (λ (q : ParamValue s). seen_in q.id.0 (map value_handle ps) ≡ true) q qs a)) ∙ ap (λ (k : ℕ). value_of k ps) (sym is)))
    | inr f ↦ rw f (among-values n ps qs (All-tail (λ (q : ParamValue s). seen_in q.id.0 (map value_handle ps) ≡ true) q qs a))
  ]

  -- parameters that are set and put back
  pub restored : (ps qs now last : List (ParamValue s)) → All (λ (q : ParamValue s). seen_in q.id.0 (map value_handle ps) ≡ true) qs → IsDistinct nat_eq (map value_handle qs) → IsDistinct nat_eq (map value_handle ps) →
      now ≡ with_params qs ps → map value_handle now ≡ map value_handle ps → last ≡ with_params (map (stands_among ps) qs) now → map value_handle last ≡ map value_handle now → last ≡ ps
  restored ps qs now last stand differ apart e h f k =
      sym (same-values ps last (sym (k ∙ h)) apart (λ n.
      sym (ap (value_of n) f ∙ set_params_law.values s n (map (stands_among ps) qs) now (subst (IsDistinct nat_eq) (sym (among-handles ps qs)) differ)
      ∙ ap (λ (o : Option ℤ). option_or (value_of n (map (stands_among ps) qs)) o) (ap (value_of n) e ∙ set_params_law.values s n qs ps differ)
      ∙ among-values n ps qs stand)))
