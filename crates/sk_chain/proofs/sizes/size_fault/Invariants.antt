use Rattle.std.proofs.Common.{◌≡◌, drop}
use Rattle.sk_chain.specs.Order.{groups_in_order}
use Rattle.sk_chain.specs.Outlines.{first_fault, size_fault}
use Rattle.sk_chain.proofs.sizes.size_fault.Given as goal

abbrev pub invariant-loop-count : goal.invariant-loop-count
invariant-loop-count g l = first_fault (size_fault l.constraints l.entities) (drop l.count-index (groups_in_order l.groups)) ≡ first_fault (size_fault l.constraints l.entities) (groups_in_order l.groups)
