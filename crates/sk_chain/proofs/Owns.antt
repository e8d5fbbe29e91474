-- The parameters that entities have as their own stand by rising handle where the entities do.
use Rattle.std.proofs.Common.{◌≡◌, ◌⊎◌, inl, inr, ℕ, ◌+◌, ◌*◌, ◌<◌, ◌≤◌, ◌^◌, List, [], ◌∷◌, ◌++◌, map, Some, sym, ap, ◌∙◌, subst, arith}
use Rattle.std.specs.Prelude.{◌==◌}
use Rattle.std.specs.List.{All, AllByRecursion, Contains, find, flat_map}
use Rattle.std.specs.List.Sorted.{IsStrictlySortedBy}
use Rattle.std.specs.Ordering.{nat_cmp}
use Rattle.std.specs.declared.cmp.Ordering.TheVariants.{Less}
use Rattle.std.proofs.lemmas.Bool.{cases_Bool, cases_lt}
use Rattle.std.proofs.lemmas.List.{map-append}
use Rattle.std.proofs.lemmas.List.Elements.{All-contains, All-from_recursion, All-head, All-tail}
use Rattle.sk_types.specs.declared.handle.ParamId.{ParamId}
use Rattle.sk_types.specs.declared.entity.Entity.{Entity}
use Rattle.sk_types.specs.declared.request.Request.{Request}
use Rattle.sk_types.specs.Lookups.{Rise, RiseBy, entity_handle, param_handle}
use Rattle.sk_types.specs.Params.{own_params}
use Rattle.sk_entity.specs.Requests.{request_entities}
use Rattle.sk_model.specs.Checked.{IsCheckedRequest}
use Rattle.sk_chain.specs.Known.{IsDrawn}
use Rattle.sk_chain.proofs.Drawn.{IsPart, request_part}
use Rattle.sk_chain.proofs.Segments.{IsWithin, all_behind, all_weaker, less, of_less}

abbrev Sorted : List ℕ → Type 0
Sorted ks = IsStrictlySortedBy nat_cmp ks

abbrev AllLess : List ℕ → ℕ → Type 0
AllLess ks k = AllByRecursion (λ j. nat_cmp k j ≡ Less) ks

abbrev Below : List ℕ → List ℕ → Type 0
Below xs ys = AllByRecursion (AllLess ys) xs

sorted_front : (xs ys : List ℕ) → Sorted (xs ++ ys) → Sorted xs
unfolding IsStrictlySortedBy
sorted_front [] ys h = tt
sorted_front (x ∷ xs) ys h = (front xs ys h.0, sorted_front xs ys h.1)
  where
    front : (fs bs : List ℕ) → AllLess (fs ++ bs) x → AllLess fs x
    front [] bs k = tt
    front (a ∷ fs) bs k = (k.0, front fs bs k.1)

sorted_back : (xs ys : List ℕ) → Sorted (xs ++ ys) → Sorted ys × Below xs ys
unfolding IsStrictlySortedBy
sorted_back [] ys h = (h, tt)
sorted_back (x ∷ xs) ys h = let rest = sorted_back xs ys h.1 in (rest.0, (back xs ys h.0, rest.1))
  where
    back : (fs bs : List ℕ) → AllLess (fs ++ bs) x → AllLess bs x
    back [] bs k = k
    back (a ∷ fs) bs k = back fs bs k.1

sorted_append : (xs ys : List ℕ) → Sorted xs → Sorted ys → Below xs ys → Sorted (xs ++ ys)
unfolding IsStrictlySortedBy
sorted_append [] ys h k b = k
sorted_append (x ∷ xs) ys h k b = (all_behind (λ j. nat_cmp x j ≡ Less) xs ys h.0 b.0, sorted_append xs ys h.1 k b.1)

below_nothing : (xs : List ℕ) → Below xs []
below_nothing [] = tt
below_nothing (x ∷ xs) = (tt, below_nothing xs)

below_append : (xs ys zs : List ℕ) → Below xs ys → Below xs zs → Below xs (ys ++ zs)
below_append [] ys zs h k = tt
below_append (x ∷ xs) ys zs h k = (all_behind (λ j. nat_cmp x j ≡ Less) ys zs h.0 k.0, below_append xs ys zs h.1 k.1)

nothing_sorted : Sorted []
unfolding IsStrictlySortedBy
nothing_sorted = tt

never : (n : ℕ) {P : Type 0} → n < n → P
never n l = absurd (omega (arith, l))

found_checked : (n : ℕ) (qs : List Request) (r : Request) → All IsCheckedRequest qs → find (λ (q : Request). n == q.id.0) qs ≡ Some r → IsCheckedRequest r
found_checked n [] r a h = cc h
found_checked n (q ∷ qs) r a h = elim (cases_Bool (n == q.id.0)) [
  | inl t ↦ (let some : Some q ≡ Some r = rw t at h in let is : q ≡ r = cc some in subst IsCheckedRequest is (All-head IsCheckedRequest q qs a))
  | inr f ↦ found_checked n qs r (All-tail IsCheckedRequest q qs a) (rw f at h)
]

abbrev In : Request → ℕ → Type 0
In r k = IsWithin (r.id.0 * 65536 + 0) (r.id.0 * 65536 + 65536) k

one_below : (r q : Request) (x : ℕ) (ys : List ℕ) → r.id.0 < q.id.0 → In r x → AllByRecursion (In q) ys → AllLess ys x
one_below r q x ys l a h = all_weaker (In q) (λ y. nat_cmp x y ≡ Less) ys (λ y b. let high = a.1 in let low = b.0 in less x y (omega (arith, l, high, low))) h

block_below : (r q : Request) (xs ys : List ℕ) → r.id.0 < q.id.0 → AllByRecursion (In r) xs → AllByRecursion (In q) ys → Below xs ys
block_below r q xs ys l h k = all_weaker (In r) (AllLess ys) xs (λ x a. one_below r q x ys l a k) h

abbrev IsLow : ℕ → Type 0
IsLow k = (65536 ≤ k) × (k < 2 ^ 31)

module _ {s : ℕ} where
  abbrev owns : Entity s → List ℕ
  owns e = map param_handle (own_params e)

  abbrev params : List (Entity s) → List ℕ
  params es = map param_handle (flat_map own_params es)

  params_cons : (e : Entity s) (es : List (Entity s)) → params (e ∷ es) ≡ owns e ++ params es
  params_cons e es = map-append param_handle (own_params e) (flat_map own_params es)

  -- the parameters of the first stand below those of the second
  abbrev Precedes : Entity s → Entity s → Type 0
  Precedes e f = Below (owns e) (owns f)

  precedes_each : (e : Entity s) (es : List (Entity s)) → Below (owns e) (params es) → AllByRecursion (Precedes e) es
  precedes_each e [] b = tt
  precedes_each e (f ∷ es) b =
      let both = subst (Below (owns e)) (params_cons f es) b in
      (front (owns e) both, precedes_each e es (back (owns e) both))
    where
      first : (x : ℕ) (fs bs : List ℕ) → AllLess (fs ++ bs) x → AllLess fs x
      first x [] bs k = tt
      first x (a ∷ fs) bs k = (k.0, first x fs bs k.1)

      last : (x : ℕ) (fs bs : List ℕ) → AllLess (fs ++ bs) x → AllLess bs x
      last x [] bs k = k
      last x (a ∷ fs) bs k = last x fs bs k.1

      front : (xs : List ℕ) → Below xs (owns f ++ params es) → Below xs (owns f)
      front [] k = tt
      front (x ∷ xs) k = (first x (owns f) (params es) k.0, front xs k.1)

      back : (xs : List ℕ) → Below xs (owns f ++ params es) → Below xs (params es)
      back [] k = tt
      back (x ∷ xs) k = (last x (owns f) (params es) k.0, back xs k.1)

  -- ---- within one request

  abbrev Ordered : Entity s → Entity s → Type 0
  Ordered e f = e.id.0 < f.id.0 → Precedes e f

  turned : (e : Entity s) (es : List (Entity s)) → AllByRecursion (λ k. nat_cmp e.id.0 k ≡ Less) (map entity_handle es) → AllByRecursion (λ f. Ordered f e) es
  turned e [] h = tt
  turned e (f ∷ es) h = (let above = of_less e.id.0 f.id.0 h.0 in λ l. absurd (omega (arith, above, l)), turned e es h.1)

  paired : (e : Entity s) (es : List (Entity s)) → AllByRecursion (λ f. Ordered f e) es → AllByRecursion (λ f. AllByRecursion (Ordered f) es) es → AllByRecursion (λ f. AllByRecursion (Ordered f) (e ∷ es)) es
  paired e es h k = both es h k
    where
      both : (fs : List (Entity s)) → AllByRecursion (λ f. Ordered f e) fs → AllByRecursion (λ f. AllByRecursion (Ordered f) es) fs → AllByRecursion (λ f. AllByRecursion (Ordered f) (e ∷ es)) fs
      both [] a b = tt
      both (f ∷ fs) a b = ((a.0, b.0), both fs a.1 b.1)

  pairs : (es : List (Entity s)) → Rise es → Sorted (params es) → AllByRecursion (λ e. AllByRecursion (Ordered e) es) es
  unfolding IsStrictlySortedBy
  pairs [] r p = tt
  pairs (e ∷ es) r p =
      let parts = sorted_back (owns e) (params es) (subst Sorted (params_cons e es) p) in
      ((λ l. never e.id.0 l, all_weaker (Precedes e) (Ordered e) es (λ f b l. b) (precedes_each e es parts.1)), paired e es (turned e es r.0) (pairs es r.1 parts.0))

  in_request : (es : List (Entity s)) (e f : Entity s) → Rise es → Sorted (params es) → Contains es e → Contains es f → Ordered e f
  in_request es e f r p c d =
      All-contains (Ordered e) es f (All-from_recursion (Ordered e) es (All-contains (λ x. AllByRecursion (Ordered x) es) es e (All-from_recursion (λ x. AllByRecursion (Ordered x) es) es (pairs es r p)) c)) d

  -- ---- of different requests

  module _ (rs : List Request) (checked : All IsCheckedRequest rs) where
    known : (e : Entity s) (d : IsDrawn rs e) → IsCheckedRequest d.request
    known e d = found_checked d.request.id.0 rs d.request checked d.there

    part : (e : Entity s) (d : IsDrawn rs e) → IsPart s d.request 0 65536 0 65536 (request_entities s d.request)
    part e d = request_part s d.request (known e d).extra

    from_mapped : (P : ℕ → Type 0) (es : List (Entity s)) → AllByRecursion P (map entity_handle es) → AllByRecursion (λ e. P e.id.0) es
    from_mapped P [] h = tt
    from_mapped P (e ∷ es) h = (h.0, from_mapped P es h.1)

    handle_in : (e : Entity s) (d : IsDrawn rs e) → In d.request e.id.0
    handle_in e d = All-contains (λ (x : Entity s). In d.request x.id.0) (request_entities s d.request) e (All-from_recursion (λ (x : Entity s). In d.request x.id.0) (request_entities s d.request) (from_mapped (In d.request) (request_entities s d.request) (part e d).handles_rise.within)) d.draws

    within_each : (r : Request) (es : List (Entity s)) → AllByRecursion (In r) (params es) → AllByRecursion (λ x. AllByRecursion (In r) (owns x)) es
    within_each r [] h = tt
    within_each r (x ∷ es) h = let both = subst (AllByRecursion (In r)) (params_cons x es) h in (front (owns x) (params es) both, within_each r es (back (owns x) (params es) both))
      where
        front : (fs bs : List ℕ) → AllByRecursion (In r) (fs ++ bs) → AllByRecursion (In r) fs
        front [] bs k = tt
        front (a ∷ fs) bs k = (k.0, front fs bs k.1)

        back : (fs bs : List ℕ) → AllByRecursion (In r) (fs ++ bs) → AllByRecursion (In r) bs
        back [] bs k = k
        back (a ∷ fs) bs k = back fs bs k.1

    owns_in : (e : Entity s) (d : IsDrawn rs e) → AllByRecursion (In d.request) (owns e)
    owns_in e d = All-contains (λ (x : Entity s). AllByRecursion (In d.request) (owns x)) (request_entities s d.request) e (All-from_recursion (λ (x : Entity s). AllByRecursion (In d.request) (owns x)) (request_entities s d.request) (within_each d.request (request_entities s d.request) (part e d).params_rise.within)) d.draws

    sorted_each : (es : List (Entity s)) → Sorted (params es) → AllByRecursion (λ x. Sorted (owns x)) es
    sorted_each [] h = tt
    sorted_each (x ∷ es) h = let both = subst Sorted (params_cons x es) h in (sorted_front (owns x) (params es) both, sorted_each es (sorted_back (owns x) (params es) both).0)

    owns_sorted : (e : Entity s) (d : IsDrawn rs e) → Sorted (owns e)
    owns_sorted e d = All-contains (λ (x : Entity s). Sorted (owns x)) (request_entities s d.request) e (All-from_recursion (λ (x : Entity s). Sorted (owns x)) (request_entities s d.request) (sorted_each (request_entities s d.request) (part e d).params_rise.rise)) d.draws

    same_request : (e f : Entity s) (d : IsDrawn rs e) (c : IsDrawn rs f) → d.request.id.0 ≡ c.request.id.0 → d.request ≡ c.request
    same_request e f d c is = let both : Some d.request ≡ Some c.request = sym d.there ∙ ap (λ n. find (λ (q : Request). n == q.id.0) rs) is ∙ c.there in cc both

    drawn_ordered : (e f : Entity s) → IsDrawn rs e → IsDrawn rs f → Ordered e f
    drawn_ordered e f d c l = elim (cases_lt d.request.id.0 c.request.id.0) [
      | inl m ↦ block_below d.request c.request (owns e) (owns f) m (owns_in e d) (owns_in f c)
      | inr m ↦
          let low = (handle_in e d).0 in
          let high = (handle_in f c).1 in
          let level : d.request.id.0 ≡ c.request.id.0 = omega (arith, m, l, low, high) in
          let is = same_request e f d c level in
          in_request (request_entities s d.request) e f (part e d).handles_rise.rise (part e d).params_rise.rise d.draws (subst (λ (r : Request). Contains (request_entities s r) f) (sym is) c.draws) l
    ]

    abbrev Owning : Entity s → Type 0
    Owning e = (own_params e ≡ []) ⊎ IsDrawn rs e

    ordered : (e f : Entity s) → Owning e → Owning f → Ordered e f
    ordered e f (inl n) b l = subst (λ (ps : List ParamId). Below (map param_handle ps) (owns f)) (sym n) tt
    ordered e f (inr d) (inl n) l = subst (λ (ps : List ParamId). Below (owns e) (map param_handle ps)) (sym n) (below_nothing (owns e))
    ordered e f (inr d) (inr c) l = drawn_ordered e f d c l

    owning_sorted : (e : Entity s) → Owning e → Sorted (owns e)
    owning_sorted e (inl n) = subst (λ (ps : List ParamId). Sorted (map param_handle ps)) (sym n) nothing_sorted
    owning_sorted e (inr d) = owns_sorted e d

    below_all : (e : Entity s) (es : List (Entity s)) → Owning e → AllByRecursion Owning es → AllByRecursion (λ k. nat_cmp e.id.0 k ≡ Less) (map entity_handle es) → Below (owns e) (params es)
    below_all e [] o h r = below_nothing (owns e)
    below_all e (f ∷ es) o h r = subst (Below (owns e)) (sym (params_cons f es)) (below_append (owns e) (owns f) (params es) (ordered e f o h.0 (of_less e.id.0 f.id.0 r.0)) (below_all e es o h.1 r.1))

    pub owns_rise : (es : List (Entity s)) → AllByRecursion Owning es → Rise es → RiseBy param_handle (flat_map own_params es)
    unfolding IsStrictlySortedBy
    owns_rise [] h r = tt
    owns_rise (e ∷ es) h r = subst Sorted (sym (params_cons e es)) (sorted_append (owns e) (params es) (owning_sorted e h.0) (owns_rise es h.1 r.1) (below_all e es h.0 h.1 r.0))

    -- ---- their bounds

    low_owns : (e : Entity s) → Owning e → AllByRecursion IsLow (owns e)
    low_owns e (inl n) = subst (λ (ps : List ParamId). AllByRecursion IsLow (map param_handle ps)) (sym n) tt
    low_owns e (inr d) =
        let least = (known e d).least in
        let most = (known e d).most in
        all_weaker (In d.request) IsLow (owns e) (λ k w. let low = w.0 in let high = w.1 in (omega (arith, least, low), omega (arith, most, high))) (owns_in e d)

    pub owns_low : (es : List (Entity s)) → AllByRecursion Owning es → AllByRecursion IsLow (params es)
    owns_low [] h = tt
    owns_low (e ∷ es) h = subst (AllByRecursion IsLow) (sym (params_cons e es)) (all_behind IsLow (owns e) (params es) (low_owns e h.0) (owns_low es h.1))

    pub owns_low_each : (es : List (Entity s)) → AllByRecursion Owning es → AllByRecursion (λ e. AllByRecursion IsLow (owns e)) es
    owns_low_each [] h = tt
    owns_low_each (e ∷ es) h = (low_owns e h.0, owns_low_each es h.1)
