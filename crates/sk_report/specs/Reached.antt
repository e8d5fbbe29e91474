-- A certified box reaches as far in each unknown as is printed of it.
use Rattle.std.proofs.Common.{◌≡◌, inl, inr, ℕ, zero, suc, ℤ, List, [], ◌∷◌, length, get_or, map, Option, None, refl, sym, ap, ◌∙◌}
use Rattle.std.specs.Prelude.{◌==◌, slice_get}
use Rattle.std.proofs.lemmas.Bool.{cases_Bool}
use Rattle.sk_krawczyk.specs.Box.{at_column}
use Rattle.sk_krawczyk.specs.Answers.{radius_of_log}
use Rattle.sk_report.specs.Block.{radius_log_at}
use Rattle.sk_report.specs.BlockLaws.{printed_reach, ReachLaw}

radius-at : (s : ℕ) (logs : List ℤ) (j : ℕ) → get_or (map (radius_of_log s) logs) j 0 ≡ printed_reach s (slice_get logs j)
radius-at s [] j = refl
radius-at s (l ∷ logs) zero = refl
radius-at s (l ∷ logs) (suc j) = radius-at s logs j

-- what is found at a column is found by its place
through : (s m : ℕ) (column : ℕ → ℕ) (radii : ℕ → ℕ) (logs : ℕ → Option ℤ) (u : ℕ) → ((j : ℕ) → radii j ≡ printed_reach s (logs j)) →
    at_column m column radii 0 u ≡ printed_reach s (at_column m column logs None u)
through s zero column radii logs u h = refl
through s (suc m) column radii logs u h = elim (cases_Bool (column m == u)) [
  | inl y ↦ rw y (h m)
  | inr n ↦ rw n (through s m column radii logs u h)
]

pub reach-law : ReachLaw
reach-law s names v k c is u =
    through s (length c.solved) (λ j. get_or c.solved j 0) (λ j. get_or c.radii j 0) (slice_get k.radius_logs) u
    (λ j. ap (λ (radii : List ℕ). get_or radii j 0) (sym is.radii) ∙ radius-at s k.radius_logs j)
    ∙ ap (λ (solved : List ℕ). printed_reach s (radius_log_at solved k.radius_logs u)) (sym is.solved)
