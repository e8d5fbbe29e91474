-- The lines of remap lists, as they are handed out.
use Rattle.std.specs.Prelude.{ℕ, List, Option, map}
use Rattle.sk_records.specs.Rows.{Row, entries}

-- a line's number, where it was read, and its body
pub record EntryLine : Type 0 where
  pub line : Option ℕ
  pub body : List ℕ

abbrev pub entry_line : Row → EntryLine
entry_line r = record { line = r.number; body = r.body }

-- the entries of the remap lists, in order
abbrev pub entry_lines : List Row → List EntryLine
entry_lines rows = map entry_line (entries rows)
