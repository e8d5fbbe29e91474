use Rattle.std.proofs.Common.{◌≡◌, ℕ, suc, zero, List, [], ◌∷◌, refl, arith, get_or}
use Rattle.sk_num.proofs.draft.Draft.new.Goals as goal

abbrev zeros : ℕ → List ℕ
zeros zero = []
zeros (suc n) = 0 ∷ zeros n

zero_at : (n k : ℕ) → get_or (zeros n) k 0 ≡ 0
zero_at zero k = refl
zero_at (suc n) zero = refl
zero_at (suc n) (suc k) = zero_at n k

pub invariant_of-result : goal.invariant_of-result
invariant_of-result c = record { whole = refl; fits = omega arith; rest = λ k h. zero_at 40 k }
