use Rattle.std.proofs.Common.{◌≡◌, drop}
use Rattle.std.specs.Option.{option_copied, option_or}
use Rattle.sk_records.specs.Rows.{last_value}
use Rattle.sk_records.specs.Holding.Held.{rows_at}
use Rattle.sk_records.proofs.lookup.last_value.Given as goal

abbrev pub invariant-loop-row : goal.invariant-loop-row
invariant-loop-row l = option_or (last_value l.key (rows_at l.text (drop l.row-index l.rows))) (option_copied l.found) ≡ last_value l.key (rows_at l.text l.rows)
