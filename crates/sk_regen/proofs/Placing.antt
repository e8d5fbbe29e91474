-- Setting things by handle, in lists by rising handle.
use Rattle.std.proofs.Common.{◌≡◌, inl, inr, ℕ, zero, suc, ◌+◌, ◌<◌, ◌≤◌, List, [], ◌∷◌, length, drop, get_or, slice_set, map, true, false, nat_eq, Some, None, Ok, refl, sym, ap, ◌∙◌, subst, arith}
use Rattle.std.specs.Prelude.{ℤ, ◌==◌}
use Rattle.std.specs.List.{find}
use Rattle.std.specs.List.Sorted.{IsBinarySearchResult}
use Rattle.std.specs.Ordering.{nat_cmp}
use Rattle.std.specs.declared.cmp.Ordering.TheVariants.{Equal}
use Rattle.std.proofs.lemmas.Bool.{cases_Bool, eq-eqb, eqb-true, ne_eqb}
use Rattle.std.proofs.lemmas.Cmp.{ranked}
use Rattle.std.proofs.lemmas.List.{drop_all, drop_more, length-map}
use Rattle.std.proofs.lemmas.Map.Keys.{below_from_sorted}
use Rattle.std.proofs.Math.ListN.{get_or-map}
use Rattle.sk_types.specs.declared.entity.Act.{Act}
use Rattle.sk_types.specs.declared.entity.ParamValue.{ParamValue}
use Rattle.sk_types.specs.Lookups.{RiseBy, value_handle, act_handle}
use Rattle.sk_model.specs.Chain.{seen_in}
use Rattle.sk_model.specs.Changes.{with_param, with_params, with_first}
use Rattle.sk_regen.specs.Regeneration.{with_act, with_acts}

module _ {X : Type 0} (handle : X → ℕ) where
  -- the handles before a place are others than the one there
  before-others : (n : ℕ) (xs : List X) (i : ℕ) (d : X) → RiseBy handle xs → i < length xs → handle (get_or xs i d) ≡ n → (k : ℕ) → k < i → nat_eq n (handle (get_or xs k d)) ≡ false
  before-others n xs i d rise inside is k l =
      let long = length-map xs handle in
      let lower : handle (get_or xs k d) < handle (get_or xs i d) = rw (get_or-map handle xs k d, get_or-map handle xs i d) at (below_from_sorted (map handle xs) k i (handle d) rise l (omega arith)) in
      ne_eqb n (handle (get_or xs k d)) (λ same. omega (arith, lower, is, same))

  set-first : (n : ℕ) (f : X → X) (xs : List X) (i : ℕ) (d : X) → i < length xs → nat_eq n (handle (get_or xs i d)) ≡ true → ((k : ℕ) → k < i → nat_eq n (handle (get_or xs k d)) ≡ false) → slice_set xs i (f (get_or xs i d)) ≡ with_first handle n f xs
  set-first n f [] i d inside here others = absurd (omega (arith, inside))
  set-first n f (x ∷ xs) zero d inside here others = rw here refl
  set-first n f (x ∷ xs) (suc i) d inside here others =
      rw (others 0 (omega arith)) (ap (λ l. x ∷ l) (set-first n f xs i d (omega (arith, inside)) here (λ k l. others (suc k) (omega (arith, l)))))

  -- where a search among rising handles finds the handle
  pub found-first : (n : ℕ) (f : X → X) (xs : List X) (i : ℕ) (d : X) → RiseBy handle xs → i < length xs → IsBinarySearchResult (λ x. nat_cmp (handle x) n) xs (Ok i) → slice_set xs i (f (get_or xs i d)) ≡ with_first handle n f xs
  found-first n f xs i d rise inside result =
      let is : handle (get_or xs i d) ≡ n = ranked (handle (get_or xs i d)) n Equal (sym (result d)) in
      set-first n f xs i d inside (eq-eqb n (handle (get_or xs i d)) (sym is)) (before-others n xs i d rise inside is)

  -- the same over a list that is lent
  pub found-in : (n : ℕ) (f : X → X) (xs ys : List X) (i : ℕ) (d : X) → ys ≡ xs → RiseBy handle xs → i < length ys → IsBinarySearchResult (λ x. nat_cmp (handle x) n) ys (Ok i) → slice_set xs i (f (get_or xs i d)) ≡ with_first handle n f xs
  found-in n f xs ys i d e rise inside result = found-first n f xs i d rise (subst (λ l. i < length l) e inside) (subst (λ l. IsBinarySearchResult (λ x. nat_cmp (handle x) n) l (Ok i)) e result)

  pub absent-first : (n : ℕ) (f : X → X) (xs : List X) → None ≡ find (λ x. n == handle x) xs → xs ≡ with_first handle n f xs
  absent-first n f [] e = refl
  absent-first n f (x ∷ xs) e = elim (cases_Bool (nat_eq n (handle x))) [
    | inl t ↦ (let no : None ≡ Some x = rw t at e in cc no)
    | inr g ↦ rw g (ap (λ l. x ∷ l) (absent-first n f xs (rw g at e)))
  ]

  pub first-handles : (n : ℕ) (f : X → X) → ((x : X) → n ≡ handle x → handle (f x) ≡ handle x) → (xs : List X) → map handle (with_first handle n f xs) ≡ map handle xs
  first-handles n f same [] = refl
  first-handles n f same (x ∷ xs) = elim (cases_Bool (nat_eq n (handle x))) [
    | inl t ↦ rw t (ap (λ h. h ∷ map handle xs) (same x (eqb-true n (handle x) t)))
    | inr g ↦ rw g (ap (λ l. handle x ∷ l) (first-handles n f same xs))
  ]

module _ {s : ℕ} where
  abbrev valued : ℤ → ParamValue s → ParamValue s
  valued v p = record { id = p.id; value = v }

  abbrev put : ℕ → ℤ → ParamValue s → ParamValue s
  put n v p = record { id = record { 0 = n }; value = v }

  -- a parameter that stands is set in its place
  standing-put : (n : ℕ) (v : ℤ) (ps : List (ParamValue s)) → seen_in n (map value_handle ps) ≡ true → with_param n v ps ≡ with_first value_handle n (put n v) ps
  standing-put n v [] e = cc
  standing-put n v (p ∷ ps) e = elim (cases_Bool (nat_eq n p.id.0)) [
    | inl t ↦ rw t (ap (λ (k : ℕ). record { id = record { 0 = k }; value = v } ∷ ps) (sym (eqb-true n p.id.0 t)))
    | inr f ↦ rw f (ap (λ l. p ∷ l) (standing-put n v ps (rw f at e)))
  ]

  standing : (n : ℕ) (v : ℤ) (ps : List (ParamValue s)) → seen_in n (map value_handle ps) ≡ true → with_param n v ps ≡ with_first value_handle n (valued v) ps
  standing n v [] e = cc
  standing n v (p ∷ ps) e = elim (cases_Bool (nat_eq n p.id.0)) [
    | inl t ↦ rw t refl
    | inr f ↦ rw f (ap (λ l. p ∷ l) (standing n v ps (rw f at e)))
  ]

  pub param-found : (n : ℕ) (v : ℤ) (ps qs : List (ParamValue s)) (i : ℕ) (d : ParamValue s) → qs ≡ ps → RiseBy value_handle ps → seen_in n (map value_handle ps) ≡ true → i < length qs → IsBinarySearchResult (λ p. nat_cmp (value_handle p) n) qs (Ok i)
      → slice_set ps i (record { id = record { 0 = n }; value = v }) ≡ with_param n v ps
  param-found n v ps qs i d e rise stands inside result = found-in value_handle n (put n v) ps qs i d e rise inside result ∙ sym (standing-put n v ps stands)

  pub param-absent : (n : ℕ) (v : ℤ) (ps : List (ParamValue s)) → seen_in n (map value_handle ps) ≡ true → None ≡ find (λ p. n == value_handle p) ps → ps ≡ with_param n v ps
  param-absent n v ps stands none = absent-first value_handle n (valued v) ps none ∙ sym (standing n v ps stands)

  pub param-handles : (n : ℕ) (v : ℤ) (ps : List (ParamValue s)) → seen_in n (map value_handle ps) ≡ true → map value_handle (with_param n v ps) ≡ map value_handle ps
  param-handles n v ps stands = ap (map value_handle) (standing n v ps stands) ∙ first-handles value_handle n (valued v) (λ p same. refl) ps

-- ---- one after the other

module _ {s : ℕ} (qs ps : List (ParamValue s)) where
  -- what is left to set leads to the same, and the handles stay
  abbrev pub ParamsAt : List (ParamValue s) → ℕ → Type 0
  ParamsAt now i = (with_params (drop i qs) now ≡ with_params qs ps) × (map value_handle now ≡ map value_handle ps)

  pub params-more : (now next : List (ParamValue s)) (i : ℕ) (q : ParamValue s) → i < length qs → q ≡ get_or qs i q → seen_in q.id.0 (map value_handle now) ≡ true → next ≡ with_param q.id.0 q.value now → ParamsAt now i → ParamsAt next (i + 1)
  params-more now next i q inside is stands set at = (
    ap (with_params (drop (i + 1) qs)) set ∙ subst (λ (p : ParamValue s). with_params (p ∷ drop (i + 1) qs) now ≡ with_params qs ps) (sym is) (rw (drop_more qs i q inside) at at.0),
    ap (map value_handle) set ∙ param-handles q.id.0 q.value now stands ∙ at.1,
  )

  pub params-all : (now : List (ParamValue s)) (i : ℕ) → length qs ≤ i → ParamsAt now i → now ≡ with_params qs ps
  params-all now i past at = rw (drop_all i qs past) at at.0

module _ {s : ℕ} (xs acts : List (Act s)) where
  abbrev pub ActsAt : List (Act s) → ℕ → Type 0
  ActsAt now i = (with_acts (drop i xs) now ≡ with_acts xs acts) × (map act_handle now ≡ map act_handle acts)

  pub acts-more : (now next : List (Act s)) (i : ℕ) (x : Act s) → i < length xs → x ≡ get_or xs i x → next ≡ with_act x now → ActsAt now i → ActsAt next (i + 1)
  acts-more now next i x inside is set at = (
    ap (with_acts (drop (i + 1) xs)) set ∙ subst (λ (a : Act s). with_acts (a ∷ drop (i + 1) xs) now ≡ with_acts xs acts) (sym is) (rw (drop_more xs i x inside) at at.0),
    ap (map act_handle) set ∙ first-handles act_handle x.entity.0 (λ (b : Act s). x) (λ b same. same) now ∙ at.1,
  )

  pub acts-all : (now : List (Act s)) (i : ℕ) → length xs ≤ i → ActsAt now i → now ≡ with_acts xs acts
  acts-all now i past at = rw (drop_all i xs past) at at.0
