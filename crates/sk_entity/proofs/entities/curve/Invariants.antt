use Rattle.std.proofs.Common.{◌≡◌, ◌+◌}
use Rattle.sk_types.specs.Lists.{each_below}
use Rattle.sk_entity.specs.Requests.{entity_item}
use Rattle.sk_entity.proofs.entities.curve.Given as goal

abbrev pub invariant-loop-i : goal.invariant-loop-i
invariant-loop-i g l = l.points.items ≡ each_below l.i (λ k. entity_item l.r (k + 1))
