-- Looking up by a search among rising handles.
use Rattle.std.proofs.Common.{◌≡◌, ◌⊎◌, inl, inr, ℕ, zero, suc, ◌<◌, ◌≤◌, List, [], ◌∷◌, length, get_or, map, Bool, true, false, nat_eq, nat_lt, Option, Some, None, Ok, Err, refl, sym, arith}
use Rattle.std.specs.Prelude.{◌==◌, if◌then◌else◌}
use Rattle.std.specs.Option.{option_map}
use Rattle.sk_types.specs.declared.entity.ParamValue.{ParamValue}
use Rattle.std.specs.List.{find, position, position_or_len}
use Rattle.std.specs.List.Sorted.{IsBinarySearchResult, IsNonDecreasingBy}
use Rattle.std.specs.Ordering.{nat_cmp, ordering_index}
use Rattle.std.specs.declared.cmp.Ordering.TheVariants.{Less, Equal, Greater}
use Rattle.std.proofs.lemmas.Cmp.{ranked}
use Rattle.std.proofs.lemmas.Bool.Decides.{nat_tests}
use Rattle.std.proofs.lemmas.Map.Keys.{below_from_sorted, sorted_tail}
use Rattle.std.proofs.lemmas.List.{length-map}
use Rattle.std.proofs.Math.ListN.{get_or-map}
use Rattle.sk_types.specs.Lookups.{RiseBy, value_handle, value_of}

pub two : (t : Bool) → (t ≡ true) ⊎ (t ≡ false)
two true = inl refl
two false = inr refl

differs : (n m : ℕ) → m < n → (n == m) ≡ false
differs n m h = grind (arith, nat_tests, h)

same : (n : ℕ) → (n == n) ≡ true
same n = grind (arith, nat_tests)

compared : (a b n : ℕ) → a ≤ b → ordering_index (nat_cmp a n) ≤ ordering_index (nat_cmp b n)
compared a b n h = grind (arith, nat_tests, h)

equal_at : (a n : ℕ) → nat_cmp a n ≡ Equal → a ≡ n
equal_at a n e = ranked a n Equal (sym e)

less_at : (a n : ℕ) → nat_cmp a n ≡ Less → (n == a) ≡ false
less_at a n e = differs n a (ranked a n Less (sym e))

greater_at : (a n : ℕ) → nat_cmp a n ≡ Greater → (n == a) ≡ false
greater_at a n e = let h : n < a = ranked a n Greater (sym e) in grind (arith, nat_tests, h)

within_length : (i n : ℕ) → i < n → Some i ≡ (if nat_lt i n then Some i else None)
within_length i n h = grind (arith, nat_tests, h)

past_length : (n : ℕ) → None ≡ (if nat_lt n n then Some n else None)
past_length n = grind (arith, nat_tests)

module _ {X : Type 0} (f : X → ℕ) where
  below : (xs : List X) (i j : ℕ) (d : X) → RiseBy f xs → i < j → j < length xs → f (get_or xs i d) < f (get_or xs j d)
  below xs i j d h l m =
      let long = length-map xs f in
      rw (get_or-map f xs i d, get_or-map f xs j d) at (below_from_sorted (map f xs) i j (f d) h l (omega arith))

  found : (n : ℕ) (xs : List X) (i : ℕ) (d : X) → RiseBy f xs → i < length xs → f (get_or xs i d) ≡ n → Some (get_or xs i d) ≡ find (λ x. n == f x) xs
  found n [] i d h l e = absurd (omega arith)
  found n (x ∷ xs) zero d h l e = rw (e, same n) refl
  found n (x ∷ xs) (suc i) d h l e =
      let lower = below (x ∷ xs) 0 (suc i) d h (omega arith) l in
      rw (differs n (f x) (omega (arith, lower, e))) (found n xs i d (sorted_tail nat_cmp (f x) (map f xs) h) (omega arith) e)

  placed_len : (n : ℕ) (xs : List X) (i : ℕ) (d : X) → RiseBy f xs → i < length xs → f (get_or xs i d) ≡ n → position_or_len (λ x. n == f x) xs ≡ i
  placed_len n [] i d h l e = absurd (omega arith)
  placed_len n (x ∷ xs) zero d h l e = rw (e, same n) refl
  placed_len n (x ∷ xs) (suc i) d h l e =
      let lower = below (x ∷ xs) 0 (suc i) d h (omega arith) l in
      let rest = placed_len n xs i d (sorted_tail nat_cmp (f x) (map f xs) h) (omega arith) e in
      rw (differs n (f x) (omega (arith, lower, e))) (omega (arith, rest))

  placed : (n : ℕ) (xs : List X) (i : ℕ) (d : X) → RiseBy f xs → i < length xs → f (get_or xs i d) ≡ n → Some i ≡ position (λ x. n == f x) xs
  placed n xs i d h l e = rw (placed_len n xs i d h l e) (within_length i (length xs) l)

  absent : (n : ℕ) (xs : List X) → ((k : ℕ) (d : X) → k < length xs → (n == f (get_or xs k d)) ≡ false) → None ≡ find (λ x. n == f x) xs
  absent n [] h = refl
  absent n (x ∷ xs) h = rw (h 0 x (omega arith)) (absent n xs (λ k d l. h (suc k) d (omega arith)))

  unplaced_len : (n : ℕ) (xs : List X) → ((k : ℕ) (d : X) → k < length xs → (n == f (get_or xs k d)) ≡ false) → position_or_len (λ x. n == f x) xs ≡ length xs
  unplaced_len n [] h = refl
  unplaced_len n (x ∷ xs) h = let rest = unplaced_len n xs (λ k d l. h (suc k) d (omega arith)) in rw (h 0 x (omega arith)) (omega (arith, rest))

  unplaced : (n : ℕ) (xs : List X) → ((k : ℕ) (d : X) → k < length xs → (n == f (get_or xs k d)) ≡ false) → None ≡ position (λ x. n == f x) xs
  unplaced n xs h = rw (unplaced_len n xs h) (past_length (length xs))

  rises : (n : ℕ) (xs : List X) → RiseBy f xs → IsNonDecreasingBy (λ x. ordering_index (nat_cmp (f x) n)) xs
  rises n xs h i j d l m = compared (f (get_or xs i d)) (f (get_or xs j d)) n (elim (two (nat_eq i j)) [
    | inl e ↦ let p : i ≡ j = grind (arith, nat_tests, e) in rw p (omega arith)
    | inr e ↦ let p : i < j = grind (arith, nat_tests, e) in omega (arith, below xs i j d h p m)
  ])

  pub searched_there : (n : ℕ) (xs : List X) (i : ℕ) (d : X) → RiseBy f xs → i < length xs → IsBinarySearchResult (λ x. nat_cmp (f x) n) xs (Ok i) → Some (get_or xs i d) ≡ find (λ x. n == f x) xs
  searched_there n xs i d h l p = found n xs i d h l (equal_at (f (get_or xs i d)) n (p d))

  pub searched_place : (n : ℕ) (xs : List X) (i : ℕ) (d : X) → RiseBy f xs → i < length xs → IsBinarySearchResult (λ x. nat_cmp (f x) n) xs (Ok i) → Some i ≡ position (λ x. n == f x) xs
  searched_place n xs i d h l p = placed n xs i d h l (equal_at (f (get_or xs i d)) n (p d))

  none_equal : (n : ℕ) (xs : List X) (i : ℕ) → RiseBy f xs → IsBinarySearchResult (λ x. nat_cmp (f x) n) xs (Err i) → (k : ℕ) (d : X) → k < length xs → (n == f (get_or xs k d)) ≡ false
  none_equal n xs i h p k d l =
      let parts = p (rises n xs h) in
      elim (two (nat_lt k i)) [
        | inl e ↦ less_at (f (get_or xs k d)) n (parts.0 k d (omega arith) (grind (arith, nat_tests, e)))
        | inr e ↦ greater_at (f (get_or xs k d)) n (parts.1 k d (grind (arith, nat_tests, e)) l)
      ]

  pub searched_absent : (n : ℕ) (xs : List X) (i : ℕ) → RiseBy f xs → IsBinarySearchResult (λ x. nat_cmp (f x) n) xs (Err i) → None ≡ find (λ x. n == f x) xs
  searched_absent n xs i h p = absent n xs (none_equal n xs i h p)

  pub searched_unplaced : (n : ℕ) (xs : List X) (i : ℕ) → RiseBy f xs → IsBinarySearchResult (λ x. nat_cmp (f x) n) xs (Err i) → None ≡ position (λ x. n == f x) xs
  searched_unplaced n xs i h p = unplaced n xs (none_equal n xs i h p)

-- ---- values

value_by : {s : ℕ} (t : Bool) (p : ParamValue s) (o : Option (ParamValue s)) → (if t then Some p.value else option_map (λ q. q.value) o) ≡ option_map (λ q. q.value) (if t then Some p else o)
value_by true p o = refl
value_by false p o = refl

value_found : {s : ℕ} (n : ℕ) (ps : List (ParamValue s)) → value_of n ps ≡ option_map (λ p. p.value) (find (λ p. n == value_handle p) ps)
value_found n [] = refl
value_found n (p ∷ ps) = rw (value_found n ps) (value_by (n == p.id.0) p (find (λ q. n == value_handle q) ps))

pub value_there : {s : ℕ} (n : ℕ) (ps : List (ParamValue s)) (p : ParamValue s) → Some p ≡ find (λ q. n == value_handle q) ps → Some p.value ≡ value_of n ps
value_there n ps p e = rw (value_found n ps, ← e) refl

pub value_absent : {s : ℕ} (n : ℕ) (ps : List (ParamValue s)) → None ≡ find (λ q. n == value_handle q) ps → None ≡ value_of n ps
value_absent n ps e = rw (value_found n ps, ← e) refl
