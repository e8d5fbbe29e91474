-- Numbers that differ, in lists one behind the other; and things that are found by them.
use Rattle.std.proofs.Common.{◌≡◌, inl, inr, ℕ, ◌+◌, ◌*◌, ◌<◌, List, [], ◌∷◌, ◌++◌, map, Bool, true, false, nat_eq, Some, refl, sym, ◌∙◌, subst, arith}
use Rattle.std.specs.List.{AllByRecursion, IsDistinct, filter, find, flat_map}
use Rattle.std.specs.List.Sorted.{IsStrictlySortedBy}
use Rattle.std.specs.Ordering.{nat_cmp}
use Rattle.std.specs.declared.cmp.Ordering.TheVariants.{Less}
use Rattle.std.proofs.lemmas.Bool.{cases_Bool, eq-eqb, eqb-true}
use Rattle.std.proofs.lemmas.Bool.Decides.{nat_tests}
use Rattle.std.proofs.lemmas.List.{map-append}
use Rattle.sk_chain.proofs.Segments.{IsSegment, IsWithin, all_behind, all_weaker, of_less}

abbrev pub Differs : List ℕ → ℕ → Type 0
Differs ks k = AllByRecursion (λ j. nat_eq k j ≡ false) ks

pub distinct_append : (xs ys : List ℕ) → IsDistinct nat_eq xs → IsDistinct nat_eq ys → AllByRecursion (Differs ys) xs → IsDistinct nat_eq (xs ++ ys)
unfolding IsDistinct
distinct_append [] ys d e h = e
distinct_append (x ∷ xs) ys d e h = (all_behind (λ j. nat_eq x j ≡ false) xs ys d.0 h.0, distinct_append xs ys d.1 e h.1)

less_differs : (n m : ℕ) → n < m → nat_eq n m ≡ false
less_differs n m l = grind (arith, nat_tests, l)

pub sorted_distinct : (ks : List ℕ) → IsStrictlySortedBy nat_cmp ks → IsDistinct nat_eq ks
unfolding IsDistinct IsStrictlySortedBy
sorted_distinct [] h = tt
sorted_distinct (k ∷ ks) h = (all_weaker (λ j. nat_cmp k j ≡ Less) (λ j. nat_eq k j ≡ false) ks (λ j e. less_differs k j (of_less k j e)) h.0, sorted_distinct ks h.1)

-- ---- segments of 65536 numbers

abbrev pub IsBlock : ℕ → List ℕ → Type 0
IsBlock n ks = IsSegment (n * 65536) (n * 65536 + 65536) ks

abbrev In : ℕ → ℕ → Type 0
In n k = IsWithin (n * 65536) (n * 65536 + 65536) k

blocks_differ : (n m x y : ℕ) → nat_eq n m ≡ false → In n x → In m y → nat_eq x y ≡ false
blocks_differ n m x y e a b = elim (cases_Bool (nat_eq x y)) [
  | inl t ↦
      let same : x ≡ y = eqb-true x y t in
      let a0 = a.0 in
      let a1 = a.1 in
      let b0 = b.0 in
      let b1 = b.1 in
      let level : n ≡ m = omega (arith, same, a0, a1, b0, b1) in
      let yes : nat_eq n m ≡ true = eq-eqb n m level in
      let no : true ≡ false = sym yes ∙ e in cc no
  | inr f ↦ f
]

block_differs : (n m x : ℕ) (ys : List ℕ) → nat_eq n m ≡ false → In n x → AllByRecursion (In m) ys → Differs ys x
block_differs n m x ys e a h = all_weaker (In m) (λ y. nat_eq x y ≡ false) ys (λ y b. blocks_differ n m x y e a b) h

module _ {T X : Type 0} (f : T → List X) (id : T → ℕ) (kept : X → ℕ) where
  abbrev IsOne : T → Type 0
  IsOne t = IsBlock (id t) (map kept (f t))

  others_differ : (n x : ℕ) (ts : List T) → In n x → AllByRecursion (λ k. nat_eq n k ≡ false) (map id ts) → AllByRecursion IsOne ts → Differs (map kept (flat_map f ts)) x
  others_differ n x [] a d h = tt
  others_differ n x (t ∷ ts) a d h =
      subst (λ ks. Differs ks x) (sym (map-append kept (f t) (flat_map f ts)))
      (all_behind (λ j. nat_eq x j ≡ false) (map kept (f t)) (map kept (flat_map f ts)) (block_differs n (id t) x (map kept (f t)) d.0 a h.0.within) (others_differ n x ts a d.1 h.1))

  pub blocks_distinct : (ts : List T) → IsDistinct nat_eq (map id ts) → AllByRecursion IsOne ts → IsDistinct nat_eq (map kept (flat_map f ts))
  unfolding IsDistinct
  blocks_distinct [] d h = tt
  blocks_distinct (t ∷ ts) d h =
      subst (IsDistinct nat_eq) (sym (map-append kept (f t) (flat_map f ts)))
      (distinct_append (map kept (f t)) (map kept (flat_map f ts)) (sorted_distinct (map kept (f t)) h.0.rise) (blocks_distinct ts d.1 h.1)
      (all_weaker (In (id t)) (Differs (map kept (flat_map f ts))) (map kept (f t)) (λ x a. others_differ (id t) x ts a d.0 h.1) h.0.within))

-- ---- things by their numbers

module _ {T : Type 0} (id : T → ℕ) where
  pub differs_filter : (p : T → Bool) (n : ℕ) (ts : List T) → Differs (map id ts) n → Differs (map id (filter p ts)) n
  differs_filter p n [] d = tt
  differs_filter p n (t ∷ ts) d = elim (cases_Bool (p t)) [
    | inl y ↦ rw y ((d.0, differs_filter p n ts d.1))
    | inr f ↦ rw f (differs_filter p n ts d.1)
  ]

  pub distinct_filter : (p : T → Bool) (ts : List T) → IsDistinct nat_eq (map id ts) → IsDistinct nat_eq (map id (filter p ts))
  unfolding IsDistinct
  distinct_filter p [] d = tt
  distinct_filter p (t ∷ ts) d = elim (cases_Bool (p t)) [
    | inl y ↦ rw y ((differs_filter p (id t) ts d.0, distinct_filter p ts d.1))
    | inr f ↦ rw f (distinct_filter p ts d.1)
  ]

  abbrev Finds : List T → T → Type 0
  Finds ts t = find (λ u. nat_eq (id t) (id u)) ts ≡ Some t

  finds_later : (t : T) (ts us : List T) → AllByRecursion (λ k. nat_eq (id t) k ≡ false) (map id us) → AllByRecursion (Finds ts) us → AllByRecursion (Finds (t ∷ ts)) us
  finds_later t ts [] d h = tt
  finds_later t ts (u ∷ us) d h = (let e = d.0 in let off : nat_eq (id u) (id t) ≡ false = grind (arith, nat_tests, e) in (rw off h.0, finds_later t ts us d.1 h.1))

  finds_self : (n : ℕ) → nat_eq n n ≡ true
  finds_self n = eq-eqb n n refl

  -- where no number stands twice, each is found by its own
  pub all_found : (ts : List T) → IsDistinct nat_eq (map id ts) → AllByRecursion (Finds ts) ts
  unfolding IsDistinct
  all_found [] d = tt
  all_found (t ∷ ts) d = (rw (finds_self (id t)) refl, finds_later t ts ts d.0 (all_found ts d.1))
