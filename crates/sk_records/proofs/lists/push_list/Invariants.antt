use Rattle.std.proofs.Common.{◌≡◌, ◌++◌, map}
use Rattle.std.specs.List.{All}
use Rattle.sk_text.specs.Lines.{line_at, lines_in}
use Rattle.sk_records.specs.Given.{list_row}
use Rattle.sk_records.specs.Holding.Held.{rows_at, RowWithin}
use Rattle.sk_records.specs.Holding.Moves.{IsPartFrom}
use Rattle.sk_records.proofs.lists.push_list.Given as goal

abbrev pub invariant-loop-line : goal.invariant-loop-line
invariant-loop-line l = record {
  parts : All (IsPartFrom l.text.items l.base) l.line-iterator;
  within : All (RowWithin l.text.items) l.rows.items;
  same : rows_at l.text.items l.rows.items ++ map list_row (map line_at l.line-iterator) ≡ map list_row (lines_in l.given);
}
