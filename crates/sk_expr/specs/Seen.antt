-- What a system is at a point, with the names of its rows.
use Rattle.std.specs.Prelude.{◌≡◌, ℕ, ◌<◌, ◌≤◌, ℤ, List, map, slice_get, Some}
use Rattle.sk_num.specs.Ends.{Ends}
use Rattle.sk_expr.specs.System.{ForcedPivot, SystemAt}
use Rattle.sk_expr.specs.Rows.{NamedRow}

pub record Seen : Type 0 where
  pub unknowns : List ℤ
  pub rows : List NamedRow
  pub cosines : List Ends
  pub forced : List ForcedPivot

-- what elimination and the interval test are given of it
abbrev pub without_names : ℕ → Seen → SystemAt
without_names params seen = record {
  params = params;
  unknowns = seen.unknowns;
  rows = map (λ r. r.tree) seen.rows;
  cosines = seen.cosines;
  forced = seen.forced;
}

-- the forced pairs of a system whose first unknowns are params parameters: each names a row and a column, each other column
-- is in exactly one of them, no parameter's column is, and their rows differ
pub record AreForced (params columns rows : ℕ) (ps : List ForcedPivot) : Type 0 where
  pub params_in : params ≤ columns
  pub rows_in : (i : ℕ) (p : ForcedPivot) → slice_get ps i ≡ Some p → p.row < rows
  pub columns_in : (i : ℕ) (p : ForcedPivot) → slice_get ps i ≡ Some p → (params ≤ p.column) × (p.column < columns)
  pub each_column : (c : ℕ) → params ≤ c → c < columns → (i : ℕ) × (p : ForcedPivot) × (slice_get ps i ≡ Some p) × (p.column ≡ c)
  pub columns_differ : (i j : ℕ) (p q : ForcedPivot) → slice_get ps i ≡ Some p → slice_get ps j ≡ Some q → p.column ≡ q.column → i ≡ j
  pub rows_differ : (i j : ℕ) (p q : ForcedPivot) → slice_get ps i ≡ Some p → slice_get ps j ≡ Some q → p.row ≡ q.row → i ≡ j
