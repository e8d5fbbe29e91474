use Rattle.std.proofs.Common.{length, ◌-◌}
use Rattle.sk_chain.specs.Leaning.{Reached}
use Rattle.sk_chain.proofs.dirty.reached.Given as goal

abbrev pub invariant-loop-next : goal.invariant-loop-next
invariant-loop-next l = Reached l.places.keys l.table l.fn.changed l.next l.dirty.keys

abbrev pub decreases-loop-next : goal.decreases-loop-next
decreases-loop-next l = length l.places.keys - l.next
