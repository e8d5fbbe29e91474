use Rattle.std.proofs.Common.{◌≡◌, drop}
use Rattle.sk_records.specs.Rows.{entries}
use Rattle.sk_records.specs.Holding.Held.{rows_at}
use Rattle.sk_records.proofs.map_lines.next_entry.Given as goal

abbrev pub invariant-loop-i : goal.invariant-loop-i
invariant-loop-i l = entries (rows_at l.text (drop l.i l.rows)) ≡ entries (rows_at l.text l.rows)
