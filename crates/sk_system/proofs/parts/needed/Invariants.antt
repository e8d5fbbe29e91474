use Rattle.std.proofs.Common.{◌≡◌, ◌++◌, drop}
use Rattle.sk_system.proofs.Needed.{chosen}
use Rattle.sk_system.proofs.parts.needed.Given as goal

abbrev pub invariant-loop-need : goal.invariant-loop-need
invariant-loop-need g l = l.ids.items ++ chosen l.kind (drop l.need-index l.need-items) ≡ chosen l.kind l.need-items
