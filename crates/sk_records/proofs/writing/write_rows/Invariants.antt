use Rattle.std.proofs.Common.{◌≡◌, ◌++◌, take, drop, length}
use Rattle.sk_text.specs.Lines.{joined}
use Rattle.sk_records.specs.Reading.{row_lines}
use Rattle.sk_records.specs.Holding.Held.{rows_at}
use Rattle.sk_records.proofs.writing.write_rows.Given as goal

abbrev pub invariant-loop-row : goal.invariant-loop-row
invariant-loop-row l = record {
  done : l.out.items ++ joined (row_lines (rows_at l.text (drop l.row-index l.rows))) ≡ l.fn.out.items ++ joined (row_lines (rows_at l.text l.rows));
  kept : take (length l.fn.out.items) l.out.items ≡ l.fn.out.items;
}
