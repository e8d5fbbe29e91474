use Rattle.std.proofs.Common.{◌≡◌, drop}
use Rattle.std.specs.List.{list_any}
use Rattle.sk_chain.specs.Dependence.{constraint_leans}
use Rattle.sk_chain.proofs.dependence.constraints_lean.Given as goal

abbrev pub invariant-loop-constraint : goal.invariant-loop-constraint
invariant-loop-constraint g l = list_any (constraint_leans l.entities l.later l.earlier) (drop l.constraint-index l.constraints) ≡ list_any (constraint_leans l.entities l.later l.earlier) l.constraints
