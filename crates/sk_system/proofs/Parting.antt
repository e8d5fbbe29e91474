-- Lists of groups that grow by one thing.
use Rattle.std.proofs.Common.{⊎_elim, ◌≢◌, ◌≡◌, ℕ, zero, suc, ◌<◌, ◌+◌, refl, sym, ◌∙◌, List, [], ◌∷◌, ◌++◌, length, drop, append-nil}
use Rattle.std.proofs.lemmas.Bool.{cases_eq, eq-eqb, ne_eqb}
use Rattle.std.proofs.lemmas.List.{get_or-set_same, get_or-set_other}
use Rattle.std.specs.Prelude.{◌==◌, slice_set, if◌then◌else◌}
use Rattle.sk_system.specs.Shares.{of_group, list_at}

-- an empty list behind others changes none
pub at-more : {X : Type 0} (lists : List (List X)) (g : ℕ) → list_at (lists ++ [] ∷ []) g ≡ list_at lists g
at-more [] zero = refl
at-more [] (suc g) = refl
at-more (xs ∷ lists) zero = refl
at-more (xs ∷ lists) (suc g) = at-more lists g

-- one thing behind those at a place
pub at-put : {X : Type 0} (lists : List (List X)) (n : ℕ) (x : X) → n < length lists → (g : ℕ) → list_at (slice_set lists n (list_at lists n ++ x ∷ [])) g ≡ list_at lists g ++ (if n == g then x ∷ [] else [])
at-put lists n x h g = ⊎_elim
    (λ (e : n ≡ g). rw (eq-eqb n g e, ← e) (get_or-set_same lists n (list_at lists n ++ x ∷ []) [] h))
    (λ (o : n ≢ g). rw (ne_eqb n g o) (get_or-set_other lists n g (list_at lists n ++ x ∷ []) [] (λ e. o (sym e)) ∙ sym (append-nil (list_at lists g))))
    (cases_eq n g)

-- the things from a place on are to be put yet
abbrev pub PartedAt : {X : Type 0} → (X → ℕ) → List X → List (List X) → ℕ → Type 0
PartedAt key xs lists i = (g : ℕ) → list_at lists g ++ of_group key g (drop i xs) ≡ of_group key g xs
