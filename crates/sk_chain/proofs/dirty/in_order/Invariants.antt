use Rattle.std.proofs.Common.{◌≡◌, ◌++◌, drop}
use Rattle.std.specs.List.{filter}
use Rattle.sk_chain.specs.Dependence.{is_listed}
use Rattle.sk_chain.proofs.dirty.in_order.Given as goal

abbrev pub invariant-loop-group : goal.invariant-loop-group
invariant-loop-group l = l.groups.items ++ filter (is_listed l.dirty.keys) (drop l.group-index l.order) ≡ filter (is_listed l.dirty.keys) l.order
