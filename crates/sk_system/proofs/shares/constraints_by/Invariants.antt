use Rattle.sk_system.specs.Shares.{constraint_group}
use Rattle.sk_system.proofs.Parting.{PartedAt}
use Rattle.sk_system.proofs.shares.constraints_by.Given as goal

abbrev pub invariant-loop-constraint : goal.invariant-loop-constraint
invariant-loop-constraint g l = PartedAt (constraint_group {s = g.row.S}) l.constraints l.lists.items l.constraint-index
