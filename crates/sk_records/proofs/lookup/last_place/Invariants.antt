use Rattle.std.proofs.Common.{◌≡◌, ◌+◌, drop}
use Rattle.std.specs.Option.{option_map, option_or}
use Rattle.sk_records.specs.Rows.{last_place}
use Rattle.sk_records.specs.Holding.Held.{rows_at}
use Rattle.sk_records.proofs.lookup.last_place.Given as goal

abbrev pub invariant-loop-i : goal.invariant-loop-i
invariant-loop-i l = option_or (option_map (λ n. l.i + n) (last_place l.key (rows_at l.text (drop l.i l.rows)))) l.found ≡ last_place l.key (rows_at l.text l.rows)
