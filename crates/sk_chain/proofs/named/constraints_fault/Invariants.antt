use Rattle.std.proofs.Common.{◌≡◌, drop}
use Rattle.sk_chain.specs.Outlines.{first_fault, constraint_fault}
use Rattle.sk_chain.proofs.named.constraints_fault.Given as goal

abbrev pub invariant-loop-constraint : goal.invariant-loop-constraint
invariant-loop-constraint g l = first_fault (constraint_fault l.places.keys l.entities) (drop l.constraint-index l.constraints) ≡ first_fault (constraint_fault l.places.keys l.entities) l.constraints
