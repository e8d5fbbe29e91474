-- Steps of a chain over a list.
use Rattle.std.proofs.Common.{◌≡◌, ◌⊎◌, inl, inr, ℕ, suc, ◌+◌, ◌≤◌, ◌<◌, List, [], ◌∷◌, ◌++◌, length, get_or, drop, map, Bool, false, Result, Ok, Err, refl, sym, ap, ◌∙◌, subst, append_assoc, add-one, drop-cons}
use Rattle.std.specs.Prelude.{if◌then◌else◌}
use Rattle.std.proofs.lemmas.List.{append-nil, drop_all, map-append}
use Rattle.sk_model.specs.declared.faults.ModelFault.{ModelFault}
use Rattle.sk_model.specs.declared.faults.ModelFault.TheVariants.{NoMemory}
use Rattle.sk_model.specs.Chain.{then_of, all_of, IsAnswer}

-- what is left of a list is typed behind what is typed already
abbrev pub RestOf : {R T X : Type 0} → (T → X) → (List X → R → Result T ModelFault) → List T → ℕ → List R → Result (List T) ModelFault
RestOf kept one xs i rs = then_of (all_of kept one (map kept xs) (drop i rs)) (λ ys. Ok (xs ++ ys))

then_onto : {T : Type 0} (m : Result (List T) ModelFault) (x : T) (xs : List T) →
    then_of (then_of m (λ ys. Ok (x ∷ ys))) (λ ys. Ok (xs ++ ys)) ≡ then_of m (λ ys. Ok ((xs ++ (x ∷ [])) ++ ys))
then_onto (Ok ys) x xs = ap Ok (sym (append_assoc xs (x ∷ []) ys))
then_onto (Err e) x xs = refl

pub rest_step : {R T X : Type 0} (kept : T → X) (one : List X → R → Result T ModelFault) (xs : List T) (x : T) (i : ℕ) (rs : List R) (d : R) (m : Result (List T) ModelFault) →
    i < length rs → one (map kept xs) (get_or rs i d) ≡ Ok x → RestOf kept one xs i rs ≡ m → RestOf kept one (xs ++ (x ∷ [])) (i + 1) rs ≡ m
rest_step kept one xs x i rs d m h e p =
    let q = rw (drop-cons rs i d h, e) at p in
    rw (add-one, map-append) (sym (then_onto (all_of kept one (map kept xs ++ (kept x ∷ [])) (drop (suc i) rs)) x xs) ∙ q)

pub rest_fault : {R T X : Type 0} (kept : T → X) (one : List X → R → Result T ModelFault) (xs : List T) (i : ℕ) (rs : List R) (d : R) (f : ModelFault) (m : Result (List T) ModelFault) →
    i < length rs → one (map kept xs) (get_or rs i d) ≡ Err f → RestOf kept one xs i rs ≡ m → m ≡ Err f
rest_fault kept one xs i rs d f m h e p = sym p ∙ rw (drop-cons rs i d h, e) refl

pub map_same : {X : Type 0} (xs : List X) → map (λ x. x) xs ≡ xs
map_same [] = refl
map_same (x ∷ xs) = ap (λ ys. x ∷ ys) (map_same xs)

-- one more thing is kept: keys that didn't hold its key hold it now
pub keys_grown : {A B : Type 0} (f : A → B) (xs xs' : List A) (x : A) (ks ks' : List B) (t : Bool) → ks' ≡ (if t then ks else (ks ++ (f x ∷ []))) → t ≡ false → ks ≡ map f xs → xs' ≡ xs ++ (x ∷ []) → ks' ≡ map f xs'
keys_grown f xs xs' x ks ks' t e u p q = e ∙ rw (u, q, p, map-append) refl

-- the same, over keys that are those of what is typed already
pub typed_step : {R T X : Type 0} (kept : T → X) (one : List X → R → Result T ModelFault) (xs xs' : List T) (x : T) (keys : List X) (i : ℕ) (rs : List R) (d : R) (m : Result (List T) ModelFault) →
    one keys (get_or rs i d) ≡ Ok x → keys ≡ map kept xs → i < length rs → xs' ≡ xs ++ (x ∷ []) → RestOf kept one xs i rs ≡ m → RestOf kept one xs' (i + 1) rs ≡ m
typed_step kept one xs xs' x keys i rs d m h k l e p = rw e (rest_step kept one xs x i rs d m l (rw k at h) p)

pub typed_fault : {R T X : Type 0} (kept : T → X) (one : List X → R → Result T ModelFault) (xs : List T) (f : ModelFault) (keys : List X) (i : ℕ) (rs : List R) (d : R) (m : Result (List T) ModelFault) →
    one keys (get_or rs i d) ≡ Err f → keys ≡ map kept xs → i < length rs → RestOf kept one xs i rs ≡ m → m ≡ Err f
typed_fault kept one xs f keys i rs d m h k l p = rest_fault kept one xs i rs d f m l (rw k at h) p

-- nothing is left
pub rest_done : {R T X : Type 0} (kept : T → X) (one : List X → R → Result T ModelFault) (xs : List T) (i : ℕ) (rs : List R) (m : Result (List T) ModelFault) → length rs ≤ i → RestOf kept one xs i rs ≡ m → m ≡ Ok xs
rest_done kept one xs i rs m over p = sym p ∙ rw (drop_all i rs over) (ap Ok (append-nil xs))

-- a thing's fault is that of all
pub fault_answered : {R T X : Type 0} (kept : T → X) (one : List X → R → Result T ModelFault) (xs : List T) (f : ModelFault) (keys : List X) (i : ℕ) (rs : List R) (d : R) (r m : Result (List T) ModelFault) →
    (f ≡ NoMemory) ⊎ (one keys (get_or rs i d) ≡ Err f) → keys ≡ map kept xs → i < length rs → RestOf kept one xs i rs ≡ m → r ≡ Err f → IsAnswer r m
fault_answered {T} kept one xs f keys i rs d r m v k l p e = subst (λ (x : Result (List T) ModelFault). IsAnswer x m) (sym e) (by_cause v)
  where
    by_cause : (f ≡ NoMemory) ⊎ (one keys (get_or rs i d) ≡ Err f) → (f ≡ NoMemory) ⊎ (m ≡ Err f)
    by_cause (inl n) = inl n
    by_cause (inr h) = inr (typed_fault kept one xs f keys i rs d m h k l p)

pub answer_ok : {T : Type 0} (r m : Result T ModelFault) (x : T) → IsAnswer r m → r ≡ Ok x → m ≡ Ok x
answer_ok r m x a e = rw e at a

pub answer_err : {T : Type 0} (r m : Result T ModelFault) (f : ModelFault) → IsAnswer r m → r ≡ Err f → (f ≡ NoMemory) ⊎ (m ≡ Err f)
answer_err r m f a e = rw e at a

pub answered : {T : Type 0} (r m : Result T ModelFault) → r ≡ m → IsAnswer r m
answered (Ok x) m e = sym e
answered (Err f) m e = inr (sym e)
