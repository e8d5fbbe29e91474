-- What is seen of a system at a point, so far or in the end.
use Rattle.std.specs.Prelude.{◌≡◌, ◌≤◌, ◌+◌, ℕ, ℤ, List, [], ◌∷◌, length, take}
use Rattle.sk_expr.specs.System.{ForcedPivot}
use Rattle.sk_expr.specs.Seen.{Seen}
use Rattle.sk_system.specs.Fits.{RowsFit}

-- forced pairs have the columns n, n + 1, ..
abbrev pub ColumnsFrom : ℕ → List ForcedPivot → Type 0
ColumnsFrom n [] = Unit {0}
ColumnsFrom n (p ∷ ps) = (p.column ≡ n) × ColumnsFrom (n + 1) ps

-- their rows rise from a on, and all are below n
abbrev pub RowsRise : ℕ → List ForcedPivot → ℕ → Type 0
RowsRise a [] n = a ≤ n
RowsRise a (p ∷ ps) n = (a ≤ p.row) × RowsRise (p.row + 1) ps n

-- every place in a row is that of an unknown or of a cosine; the unknowns are the point's numbers, then the auxiliaries, and each
-- of these has one forced pair, in order
pub record IsSeen (xs : List ℤ) (seen : Seen) : Type 0 where
  pub rows : RowsFit (length seen.unknowns) (length seen.cosines) seen.rows
  pub many : length seen.unknowns ≡ length xs + length seen.forced
  pub columns : ColumnsFrom (length xs) seen.forced
  pub rising : RowsRise 0 seen.forced (length seen.rows)
  pub begins : take (length xs) seen.unknowns ≡ xs

-- and there are at most 400 unknowns and 400 rows
pub record IsVisit (xs : List ℤ) (seen : Seen) : Type 0 where
  pub fits : IsSeen xs seen
  pub few_unknowns : length seen.unknowns ≤ 400
  pub few_rows : length seen.rows ≤ 400
