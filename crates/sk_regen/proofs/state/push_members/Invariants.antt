use Rattle.std.proofs.Common.{◌≡◌, ◌++◌}
use Rattle.std.specs.Vec.Iter.{into_iter_items}
use Rattle.sk_regen.proofs.state.push_members.Given as goal

abbrev pub invariant-loop-listed : goal.invariant-loop-listed
invariant-loop-listed g l = l.members ++ into_iter_items l.listed-iterator ≡ l.initial.members ++ l.fn.more.items
