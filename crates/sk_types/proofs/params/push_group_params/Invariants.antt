use Rattle.std.proofs.Common.{◌≡◌, ◌++◌}
use Rattle.sk_types.specs.Handles.{item_of_group}
use Rattle.sk_types.specs.Lists.{each_below}
use Rattle.sk_types.proofs.params.push_group_params.Given as goal

abbrev pub invariant-loop-i : goal.invariant-loop-i
invariant-loop-i g l = l.params.items ≡ l.fn.params.items ++ each_below l.i (λ k. record { 0 = item_of_group l.group.id.0 k })
