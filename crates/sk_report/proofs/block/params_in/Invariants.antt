use Rattle.std.proofs.Common.{◌≡◌, take}
use Rattle.sk_report.specs.Block.{params_in}
use Rattle.sk_report.proofs.block.params_in.Given as goal

abbrev pub invariant-loop-column : goal.invariant-loop-column
invariant-loop-column l = l.list.items ≡ params_in l.params (take l.column-index l.columns)
