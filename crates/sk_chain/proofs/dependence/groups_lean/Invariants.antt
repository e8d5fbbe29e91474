use Rattle.std.proofs.Common.{◌≡◌, drop}
use Rattle.std.specs.List.{list_any}
use Rattle.sk_chain.specs.Dependence.{group_leans}
use Rattle.sk_chain.proofs.dependence.groups_lean.Given as goal

abbrev pub invariant-loop-group : goal.invariant-loop-group
invariant-loop-group g l = list_any (group_leans l.entities l.later l.earlier) (drop l.group-index l.groups) ≡ list_any (group_leans l.entities l.later l.earlier) l.groups
