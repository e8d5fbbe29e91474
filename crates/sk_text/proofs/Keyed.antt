-- Where the first `=` of a line stands.
use Rattle.std.proofs.Common.{◌≡◌, ℕ, zero, suc, ◌<◌, List, [], ◌∷◌, Option, Some, None, length, take, drop, get_or, refl, ap, arith}
use Rattle.std.specs.Option.{option_map}
use Rattle.std.proofs.lemmas.Bool.{ne_eqb, eq-eqb}
use Rattle.sk_text.specs.Keys.{parts_at_equals}

abbrev onto : ℕ → Option (List ℕ × List ℕ) → Option (List ℕ × List ℕ)
onto b o = option_map (λ (p : List ℕ × List ℕ). (b ∷ p.0, p.1)) o

pub parts_first : (xs : List ℕ) (k : ℕ) → k < length xs → get_or xs k 0 ≡ 61 → ((j : ℕ) → j < k → get_or xs j 0 ≡ 61 → ⊥) → parts_at_equals xs ≡ Some (take k xs, drop (suc k) xs)
parts_first [] k lt is clear = absurd (omega arith)
parts_first (b ∷ bs) zero lt is clear = rw (eq-eqb b 61 is) refl
parts_first (b ∷ bs) (suc k) lt is clear = rw (ne_eqb b 61 (clear 0 (omega arith))) (ap (onto b) (parts_first bs k (omega arith) is (λ j below. clear (suc j) (omega arith))))

pub parts_none : (xs : List ℕ) → ((j : ℕ) → j < length xs → get_or xs j 0 ≡ 61 → ⊥) → parts_at_equals xs ≡ None
parts_none [] clear = refl
parts_none (b ∷ bs) clear = rw (ne_eqb b 61 (clear 0 (omega arith))) (ap (onto b) (parts_none bs (λ j below. clear (suc j) (omega arith))))
