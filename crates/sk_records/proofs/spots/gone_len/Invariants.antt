use Rattle.std.proofs.Common.{◌≡◌, ◌+◌, drop}
use Rattle.sk_records.specs.Holding.Spots.{gone_len}
use Rattle.sk_records.proofs.spots.gone_len.Given as goal

abbrev pub invariant-loop-i : goal.invariant-loop-i
invariant-loop-i l = l.i + gone_len (drop l.i l.items) ≡ gone_len l.items
