-- Lists that loops make.
use Rattle.std.proofs.Common.{◌≡◌, ℕ, zero, suc, ◌+◌, arith, ap, sym, ◌∙◌, List, [], ◌∷◌, ◌++◌, Bool, true, false, cond}
use Rattle.std.specs.List.{filter, range_with_len}

range-last : (a n j : ℕ) → a + n ≡ j → range_with_len a (suc n) ≡ range_with_len a n ++ j ∷ []
range-last a zero j e = let z : a ≡ j = omega (arith, e) in ap (λ i. i ∷ []) z
range-last a (suc n) j e = ap (λ xs. a ∷ xs) (range-last (a + 1) n j (omega (arith, e)))

pub range-more : (n : ℕ) (now new : List ℕ) → now ≡ range_with_len 0 n → new ≡ now ++ n ∷ [] → new ≡ range_with_len 0 (n + 1)
range-more n now new h k =
    let z : suc n ≡ n + 1 = omega arith in
    k ∙ ap (λ xs. xs ++ n ∷ []) h ∙ sym (range-last 0 n n (omega arith)) ∙ ap (range_with_len 0) z

filter_range-last : (p : ℕ → Bool) (a n j : ℕ) → a + n ≡ j → filter p (range_with_len a (suc n)) ≡ filter p (range_with_len a n) ++ cond (p j) (j ∷ []) []
filter_range-last p a zero j e = let z : a ≡ j = omega (arith, e) in ap (λ i. cond (p i) (i ∷ []) []) z
filter_range-last p a (suc n) j e = pick (p a) (filter_range-last p (a + 1) n j (omega (arith, e)))
  where
    pick : (b : Bool) → filter p (range_with_len (a + 1) (suc n)) ≡ filter p (range_with_len (a + 1) n) ++ cond (p j) (j ∷ []) [] →
        cond b (a ∷ filter p (range_with_len (a + 1) (suc n))) (filter p (range_with_len (a + 1) (suc n))) ≡ cond b (a ∷ filter p (range_with_len (a + 1) n)) (filter p (range_with_len (a + 1) n)) ++ cond (p j) (j ∷ []) []
    pick true h = ap (λ xs. a ∷ xs) h
    pick false h = h

-- one number more
pub kept-more : (p : ℕ → Bool) (n : ℕ) (b : Bool) (now new : List ℕ) → now ≡ filter p (range_with_len 0 n) → b ≡ p n → new ≡ now ++ cond b (n ∷ []) [] → new ≡ filter p (range_with_len 0 (n + 1))
kept-more p n b now new h e k =
    let z : suc n ≡ n + 1 = omega arith in
    k ∙ ap (λ xs. xs ++ cond b (n ∷ []) []) h ∙ ap (λ b. filter p (range_with_len 0 n) ++ cond b (n ∷ []) []) e ∙ sym (filter_range-last p 0 n n (omega arith)) ∙ ap (λ k. filter p (range_with_len 0 k)) z
