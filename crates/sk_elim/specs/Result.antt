-- The result of the code, beside the rule's.
use Rattle.std.specs.Prelude.{◌≡◌, ℕ, List, [], ◌∷◌, ◌++◌, length, ℤ}
use Rattle.sk_elim.specs.Elimination.{Elimination}
use Rattle.sk_elim.specs.declared.elimination.Elim.{Elim}

-- lists one after the other
abbrev pub joined : List (List ℤ) → List ℤ
joined [] = []
joined (xs ∷ xss) = xs ++ joined xss

-- the inverse is stored row by row
pub record IsElimination (s : ℕ) (e : Elim s) (o : Elimination) : Type 0 where
  pub pivots : e.pivots ≡ o.pivots
  pub held : e.held ≡ o.held
  pub suspects : e.suspects ≡ o.suspects
  pub rows : e.inverse.rows ≡ length o.solved
  pub cols : e.inverse.cols ≡ length o.retained
  pub cells : e.inverse.cells ≡ joined o.inverse
