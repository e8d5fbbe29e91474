-- Chains over lists that change.
use Rattle.std.proofs.Common.{◌≡◌, ◌⊎◌, inl, inr, ℕ, suc, ◌+◌, List, [], ◌∷◌, ◌++◌, map, true, false, nat_eq, Result, Ok, refl, sym, ap, append_assoc, arith, length}
use Rattle.std.specs.List.{position_or_len}
use Rattle.std.proofs.lemmas.Bool.{eqb-true, cases_Bool}
use Rattle.std.proofs.lemmas.List.{append-nil}
use Rattle.sk_records.specs.Blocks.{changed_at}
use Rattle.sk_model.specs.declared.faults.ModelFault.{ModelFault}
use Rattle.sk_model.specs.Chain.{all_of}
use Rattle.sk_model.specs.Changes.{with_first}
use Rattle.sk_model.specs.TypingLaws.Chains.{then_same, then_parts, ok_inj}

-- one by one related
abbrev pub AllRelated : {R : Type 0} → (R → R → Type 0) → List R → List R → Type 0
AllRelated P [] [] = Unit {0}
AllRelated P [] (q ∷ qs) = ⊥
AllRelated P (r ∷ rs) [] = ⊥
AllRelated P (r ∷ rs) (q ∷ qs) = P r q × AllRelated P rs qs

pub all_related : {R T X : Type 0} (kept : T → X) (one : List X → R → Result T ModelFault) (P : R → R → Type 0) →
    ((seen : List X) (r q : R) (x : T) → P r q → one seen r ≡ Ok x → one seen q ≡ Ok x) →
    (seen : List X) (rs qs : List R) (xs : List T) → AllRelated P rs qs → all_of kept one seen rs ≡ Ok xs → all_of kept one seen qs ≡ Ok xs
all_related kept one P same seen [] [] xs rel e = e
all_related kept one P same seen [] (q ∷ qs) xs rel e = absurd rel
all_related kept one P same seen (r ∷ rs) [] xs rel e = absurd rel
all_related kept one P same seen (r ∷ rs) (q ∷ qs) xs rel e =
    then_same _ _ _ _ xs (λ x. same seen r q x rel.0) (λ x. then_same _ _ _ _ xs (λ ys. all_related kept one P same (seen ++ kept x ∷ []) rs qs ys rel.1) (λ ys f. f)) e

one_more : (k : ℕ) → 1 + k ≡ suc k
one_more k = omega arith

set_step : {R T : Type 0} (kept : T → ℕ) (one : List ℕ → R → Result T ModelFault) (id : ℕ) (f : R → R) (g : T → T) →
    ((seen : List ℕ) (r : R) (x : T) → kept x ≡ id → one seen r ≡ Ok x → one seen (f r) ≡ Ok (g x)) → ((x : T) → kept (g x) ≡ kept x) →
    (seen : List ℕ) (r : R) (rs : List R) (x : T) (ys : List T) → one seen r ≡ Ok x → all_of kept one (seen ++ kept x ∷ []) rs ≡ Ok ys → (nat_eq id (kept x) ≡ true) ⊎ (nat_eq id (kept x) ≡ false) →
    all_of kept one (seen ++ kept x ∷ []) (changed_at f (position_or_len (nat_eq id) (map kept ys)) rs) ≡ Ok (with_first kept id g ys) →
    all_of kept one seen (changed_at f (position_or_len (nat_eq id) (map kept (x ∷ ys))) (r ∷ rs)) ≡ Ok (with_first kept id g (x ∷ ys))
set_step kept one id f g lift keep seen r rs x ys p q (inl h) more = rw (h, lift seen r x (sym (eqb-true id (kept x) h)) p, keep x, q) refl
set_step kept one id f g lift keep seen r rs x ys p q (inr h) more = rw (h, one_more (position_or_len (nat_eq id) (map kept ys))) (rw (p, more) refl)

-- the one with a handle is changed, in the list and among what is read
pub all_set : {R T : Type 0} (kept : T → ℕ) (one : List ℕ → R → Result T ModelFault) (id : ℕ) (f : R → R) (g : T → T) →
    ((seen : List ℕ) (r : R) (x : T) → kept x ≡ id → one seen r ≡ Ok x → one seen (f r) ≡ Ok (g x)) → ((x : T) → kept (g x) ≡ kept x) →
    (seen : List ℕ) (rs : List R) (xs : List T) → all_of kept one seen rs ≡ Ok xs → all_of kept one seen (changed_at f (position_or_len (nat_eq id) (map kept xs)) rs) ≡ Ok (with_first kept id g xs)
all_set kept one id f g lift keep seen [] [] e = e
all_set kept one id f g lift keep seen [] (x ∷ xs) e = cc
all_set kept one id f g lift keep seen (r ∷ rs) xs e =
    then_parts (one seen r) _ xs e (λ x ex e1.
    then_parts (all_of kept one (seen ++ kept x ∷ []) rs) _ xs e1 (λ ys eys e2.
    rw (sym (ok_inj e2)) (set_step kept one id f g lift keep seen r rs x ys ex eys (cases_Bool (nat_eq id (kept x))) (all_set kept one id f g lift keep (seen ++ kept x ∷ []) rs ys eys))))

-- one more at the end
pub all_added : {R T X : Type 0} (kept : T → X) (one : List X → R → Result T ModelFault) (r : R) (x : T) (seen : List X) (rs : List R) (xs : List T) →
    all_of kept one seen rs ≡ Ok xs → one (seen ++ map kept xs) r ≡ Ok x → all_of kept one seen (rs ++ r ∷ []) ≡ Ok (xs ++ x ∷ [])
all_added kept one r x seen [] [] e h = rw (rw (append-nil seen) at h) refl
all_added kept one r x seen [] (y ∷ ys) e h = cc
all_added kept one r x seen (q ∷ rs) xs e h =
    then_parts (one seen q) _ xs e (λ y ey e1.
    then_parts (all_of kept one (seen ++ kept y ∷ []) rs) _ xs e1 (λ ys eys e2.
    (let is : y ∷ ys ≡ xs = ok_inj e2 in
    let last : one ((seen ++ kept y ∷ []) ++ map kept ys) r ≡ Ok x = rw (append_assoc seen (kept y ∷ []) (map kept ys)) (rw (← is) at h) in
    rw (← is) (rw (ey, all_added kept one r x (seen ++ kept y ∷ []) rs ys eys last) refl))))

-- as many as there are records
pub all_length : {R T X : Type 0} (kept : T → X) (one : List X → R → Result T ModelFault) (seen : List X) (rs : List R) (xs : List T) → all_of kept one seen rs ≡ Ok xs → length rs ≡ length xs
all_length kept one seen [] [] e = refl
all_length kept one seen [] (x ∷ xs) e = cc
all_length kept one seen (r ∷ rs) xs e =
    then_parts (one seen r) _ xs e (λ x ex e1.
    then_parts (all_of kept one (seen ++ kept x ∷ []) rs) _ xs e1 (λ ys eys e2.
    (let is : x ∷ ys ≡ xs = ok_inj e2 in rw (← is) (ap suc (all_length kept one (seen ++ kept x ∷ []) rs ys eys)))))
