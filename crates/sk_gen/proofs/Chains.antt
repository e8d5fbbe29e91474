-- One more line of a chain.
use Rattle.std.proofs.Common.{◌≡◌, ℕ, ◌+◌, List, ◌++◌, ap, ◌∙◌, sym, subst, append_assoc, add-one}
use Rattle.std.specs.Prelude.{Result, Ok, Err, OnOk}
use Rattle.sk_gen.specs.MadeModel.{of_lines}

pub of_lines-more : (f : ℕ → List ℕ) (old out new : List ℕ) (k : ℕ) → out ≡ old ++ of_lines k f → new ≡ out ++ f k → new ≡ old ++ of_lines (k + 1) f
of_lines-more f old out new k e h = h ∙ ap (λ (t : List ℕ). t ++ f k) e ∙ append_assoc old (of_lines k f) (f k) ∙ ap (λ (n : ℕ). old ++ of_lines n f) (sym (add-one k))

-- one piece, then the others
pub behind : (old out new a b : List ℕ) → out ≡ old ++ a → new ≡ out ++ b → new ≡ old ++ (a ++ b)
behind old out new a b e h = h ∙ ap (λ (t : List ℕ). t ++ b) e ∙ append_assoc old a b

-- the same where there is memory
pub then : {T E : Type 0} (r : Result T E) (old out new a b : List ℕ) → out ≡ old ++ a → OnOk r (new ≡ out ++ b) → OnOk r (new ≡ old ++ (a ++ b))
then (Ok x) old out new a b e h = behind old out new a b e h
then (Err x) old out new a b e h = tt

-- a piece of another number that is the same
pub same : (old out : List ℕ) (f : ℕ → List ℕ) (n m : ℕ) → n ≡ m → out ≡ old ++ f n → out ≡ old ++ f m
same old out f n m e h = subst (λ (k : ℕ). out ≡ old ++ f k) e h
