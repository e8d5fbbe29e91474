-- A stable sort by a number puts things in order.
use Rattle.std.proofs.Common.{◌≡◌, inl, inr, ℕ, suc, ◌<◌, ◌≤◌, List, [], ◌∷◌, ◌++◌, length, get_or, Bool, true, false, not, nat_eq, nat_lt, refl, sym, ap, ◌∙◌, subst, append_assoc, append-nil, arith}
use Rattle.std.specs.Prelude.{◌&&◌, if◌then◌else◌}
use Rattle.std.specs.List.{AllByRecursion, filter, fold}
use Rattle.std.specs.List.Sorted.{IsNonDecreasingBy, IsSortedByKey, IsStableByKey, ties}
use Rattle.std.specs.Ordering.{nat_cmp, is_lt}
use Rattle.std.proofs.lemmas.Bool.{cases_Bool}
use Rattle.std.proofs.lemmas.Bool.Decides.{nat_tests}
use Rattle.std.proofs.lemmas.List.Elements.{filter-append}
use Rattle.std.proofs.lemmas.List.Sorted.{IsNonDecreasingBy-from_sort}
use Rattle.sk_copy.specs.Order.{put_in, in_order}

tie_is : (a b : ℕ) → (not (is_lt (nat_cmp a b)) && not (is_lt (nat_cmp b a))) ≡ nat_eq a b
tie_is a b = grind (arith, nat_tests)

module _ {X : Type 0} (n : X → ℕ) where
  abbrev before : X → X → Bool
  before x y = nat_lt (n x) (n y)

  abbrev same : X → X → Bool
  same x y = nat_eq (n x) (n y)

  -- from one on all are at least so great
  abbrev Above : ℕ → List X → Type 0
  Above k ys = AllByRecursion (λ y. k ≤ n y) ys

  abbrev Sorted : List X → Type 0
  Sorted [] = Unit {0}
  Sorted (x ∷ xs) = Above (n x) xs × Sorted xs

  above_less : (j k : ℕ) (ys : List X) → j ≤ k → Above k ys → Above j ys
  above_less j k [] l h = tt
  above_less j k (y ∷ ys) l h = (let m = h.0 in omega (arith, l, m), above_less j k ys l h.1)

  above_if : (k : ℕ) (t : Bool) (xs ys : List X) → Above k xs → Above k ys → Above k (if t then xs else ys)
  above_if k true xs ys h i = h
  above_if k false xs ys h i = i

  above_put : (k : ℕ) (x : X) (ys : List X) → k ≤ n x → Above k ys → Above k (put_in before x ys)
  above_put k x [] l h = (l, tt)
  above_put k x (y ∷ ys) l h = above_if k (before x y) (x ∷ y ∷ ys) (y ∷ put_in before x ys) (l, h) (h.0, above_put k x ys l h.1)

  sorted_put : (x : X) (ys : List X) → Sorted ys → Sorted (put_in before x ys)
  sorted_put x [] h = (tt, tt)
  sorted_put x (y ∷ ys) h = elim (cases_Bool (before x y)) [
    | inl t ↦ (let l : n x ≤ n y = grind (arith, nat_tests, t) in rw t ((l, above_less (n x) (n y) ys l h.0), h))
    | inr f ↦ (let l : n y ≤ n x = grind (arith, nat_tests, f) in rw f (above_put (n y) x ys l h.0, sorted_put x ys h.1))
  ]

  sorted_onto : (ys xs : List X) → Sorted ys → Sorted (fold (λ zs x. put_in before x zs) ys xs)
  sorted_onto ys [] h = h
  sorted_onto ys (x ∷ xs) h = sorted_onto (put_in before x ys) xs (sorted_put x ys h)

  -- what is above doesn't tie with what is below
  none_tie : (w : X) (k : ℕ) (ys : List X) → n w < k → Above k ys → filter (same w) ys ≡ []
  none_tie w k [] l h = refl
  none_tie w k (y ∷ ys) l h = let m = h.0 in let no : same w y ≡ false = grind (arith, nat_tests, l, m) in rw no (none_tie w k ys l h.1)

  tied_put : (w x : X) (ys : List X) → Sorted ys → filter (same w) (put_in before x ys) ≡ filter (same w) ys ++ filter (same w) (x ∷ [])
  tied_put w x [] h = refl
  tied_put w x (y ∷ ys) h = elim (cases_Bool (before x y)) [
    | inl t ↦ elim (cases_Bool (same w x)) [
      | inl u ↦ (let l : n w < n y = grind (arith, nat_tests, t, u) in
          let rest : filter (same w) (y ∷ ys) ≡ [] = none_tie w (n y) (y ∷ ys) l (omega arith, h.0) in rw (t, u, rest) refl)
      | inr u ↦ rw (t, u) (sym (append-nil (filter (same w) (y ∷ ys))))
    ]
    | inr f ↦ elim (cases_Bool (same w y)) [
      | inl u ↦ rw (f, u, tied_put w x ys h.1) refl
      | inr u ↦ rw (f, u) (tied_put w x ys h.1)
    ]
  ]

  tied_onto : (w : X) (ys xs : List X) → Sorted ys → filter (same w) (fold (λ zs x. put_in before x zs) ys xs) ≡ filter (same w) ys ++ filter (same w) xs
  tied_onto w ys [] h = sym (append-nil (filter (same w) ys))
  tied_onto w ys (x ∷ xs) h =
      tied_onto w (put_in before x ys) xs (sorted_put x ys h)
      ∙ ap (λ (l : List X). l ++ filter (same w) xs) (tied_put w x ys h)
      ∙ append_assoc (filter (same w) ys) (filter (same w) (x ∷ [])) (filter (same w) xs)
      ∙ ap (λ (l : List X). filter (same w) ys ++ l) (sym (filter-append (same w) (x ∷ []) xs))

  -- what is sorted and ties alike is the same
  abbrev TieAlike : List X → List X → Type 0
  TieAlike xs ys = (w : X) → filter (same w) xs ≡ filter (same w) ys

  same_self : (x : X) → same x x ≡ true
  same_self x = grind (arith, nat_tests)

  rest : (w x : X) (xs : List X) (y : X) (ys : List X) → n x ≡ n y → filter (same w) (x ∷ xs) ≡ filter (same w) (y ∷ ys) → filter (same w) xs ≡ filter (same w) ys
  rest w x xs y ys e h = elim (cases_Bool (same w x)) [
    | inl u ↦ (let v : same w y ≡ true = subst (λ (k : ℕ). nat_eq (n w) k ≡ true) e u in
        let both : x ∷ filter (same w) xs ≡ y ∷ filter (same w) ys = rw (u, v) at h in cc both)
    | inr u ↦ (let v : same w y ≡ false = subst (λ (k : ℕ). nat_eq (n w) k ≡ false) e u in rw (u, v) at h)
  ]

  cons_both : (x y : X) (xs ys : List X) → x ≡ y → xs ≡ ys → x ∷ xs ≡ y ∷ ys
  cons_both x y xs ys e f = cc (e, f)

  not_below : (x : X) (xs : List X) (y : X) (ys : List X) → Sorted (y ∷ ys) → filter (same x) (x ∷ xs) ≡ filter (same x) (y ∷ ys) → n y ≤ n x
  not_below x xs y ys t h = elim (cases_Bool (before x y)) [
    | inl u ↦ (let l : n x < n y = grind (arith, nat_tests, u) in
        let none : filter (same x) (y ∷ ys) ≡ [] = none_tie x (n y) (y ∷ ys) l (omega arith, t.0) in
        let some : x ∷ filter (same x) xs ≡ [] = rw (same_self x) at (h ∙ none) in cc some)
    | inr u ↦ grind (arith, nat_tests, u)
  ]

  one : (xs ys : List X) → Sorted xs → Sorted ys → TieAlike xs ys → xs ≡ ys
  one [] [] s t h = refl
  one (x ∷ xs) [] s t h = (let e = rw (same_self x) at (h x) in cc e)
  one [] (y ∷ ys) s t h = (let e = rw (same_self y) at (h y) in cc e)
  one (x ∷ xs) (y ∷ ys) s t h =
      let low = not_below x xs y ys t (h x) in
      let high = not_below y ys x xs s (sym (h y)) in
      let level : n x ≡ n y = omega (arith, low, high) in
      let tie : same x y ≡ true = grind (arith, nat_tests, level) in
      let firsts : x ∷ filter (same x) xs ≡ y ∷ filter (same x) ys = rw (same_self x, tie) at (h x) in
      let head : x ≡ y = cc firsts in
      cons_both x y xs ys head (one xs ys s.1 t.1 (λ w. rest w x xs y ys level (h w)))

  all_above : (k : ℕ) (ys : List X) → ((i : ℕ) (d : X) → i < length ys → k ≤ n (get_or ys i d)) → Above k ys
  all_above k [] h = tt
  all_above k (y ∷ ys) h = (h 0 y (omega arith), all_above k ys (λ i d l. h (suc i) d (omega (arith, l))))

  from_places : (ys : List X) → IsNonDecreasingBy n ys → Sorted ys
  from_places [] h = tt
  from_places (y ∷ ys) h = (all_above (n y) ys (λ i d l. h 0 (suc i) d (omega arith) (omega (arith, l))), from_places ys (λ i j d l m. h (suc i) (suc j) d (omega (arith, l)) (omega (arith, m))))

  filter_same : (p q : X → Bool) → ((x : X) → p x ≡ q x) → (xs : List X) → filter p xs ≡ filter q xs
  filter_same p q h [] = refl
  filter_same p q h (x ∷ xs) = rw (h x, filter_same p q h xs) refl

  pub sorted_is_in_order : (xs ys : List X) → IsSortedByKey n nat_cmp ys → IsStableByKey n nat_cmp xs ys → ys ≡ in_order before xs
  unfolding in_order
  sorted_is_in_order xs ys up stable =
      one ys (in_order before xs) (from_places ys (IsNonDecreasingBy-from_sort n ys up)) (sorted_onto [] xs tt) (λ w.
      sym (filter_same (ties (λ (x : X) (y : X). is_lt (nat_cmp (n x) (n y))) w) (same w) (λ x. tie_is (n w) (n x)) ys)
      ∙ stable w
      ∙ filter_same (ties (λ (x : X) (y : X). is_lt (nat_cmp (n x) (n y))) w) (same w) (λ x. tie_is (n w) (n x)) xs
      ∙ sym (tied_onto w [] xs tt))
