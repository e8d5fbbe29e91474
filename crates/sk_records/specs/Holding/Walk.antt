-- The lines of a record, as they are gone over.
use Rattle.std.specs.Prelude.{◌≤◌, ℕ, List, length}
use Rattle.std.specs.List.{All}
use Rattle.sk_records.specs.declared.rows.Row as held
use Rattle.sk_records.specs.Holding.Held.{RowWithin}

-- all lines lie in the text, and the next one is behind no last one
pub record IsWalk (text : List ℕ) (rows : List held.Row) (at : ℕ) : Type 0 where
  pub within : All (RowWithin text) rows
  pub below : at ≤ length rows
