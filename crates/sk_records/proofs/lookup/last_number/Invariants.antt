use Rattle.std.proofs.Common.{◌≡◌, drop}
use Rattle.std.specs.Prelude.{if◌then◌else◌}
use Rattle.sk_records.specs.Rows.{last_value, last_number, is_known}
use Rattle.sk_records.specs.Holding.Held.{rows_at}
use Rattle.sk_records.proofs.lookup.last_number.Given as goal

abbrev pub invariant-loop-row : goal.invariant-loop-row
invariant-loop-row l =
    (if is_known (last_value l.key (rows_at l.text (drop l.row-index l.rows))) then last_number l.key (rows_at l.text (drop l.row-index l.rows)) else l.found) ≡ last_number l.key (rows_at l.text l.rows)
