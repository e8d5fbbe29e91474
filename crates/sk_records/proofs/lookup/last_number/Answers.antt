use Rattle.sk_records.specs.Holding.Held.{rows_at}
use Rattle.sk_records.proofs.PlacesLemmas.{number_or_none}
use Rattle.sk_records.proofs.lookup.last_number.Goals as goal

pub loop-row-init : goal.loop-row-init
loop-row-init c = number_or_none c.args.key.now (rows_at c.args.text.now c.args.rows.now)
