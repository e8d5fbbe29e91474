use Rattle.std.proofs.Common.{◌≡◌, drop}
use Rattle.sk_chain.specs.Outlines.{first_fault, constraint_group_fault}
use Rattle.sk_chain.proofs.named.constraint_group_fault.Given as goal

abbrev pub invariant-loop-constraint : goal.invariant-loop-constraint
invariant-loop-constraint g l = first_fault (constraint_group_fault l.places.keys) (drop l.constraint-index l.constraints) ≡ first_fault (constraint_group_fault l.places.keys) l.constraints
