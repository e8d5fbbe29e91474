use Rattle.std.proofs.Common.{◌≡◌, ◌++◌, map, take}
use Rattle.sk_chain.specs.Order.{group_order, groups_in_order}
use Rattle.sk_chain.proofs.Orders.{Rank, rank_of}
use Rattle.sk_chain.proofs.order.order_of.Given as goal

abbrev pub invariant-loop-group : goal.invariant-loop-group
invariant-loop-group g l = l.ranks.keys ≡ map rank_of (groups_in_order (take l.group-index l.groups))

abbrev pub invariant-loop-id : goal.invariant-loop-id
invariant-loop-id g l = l.order.items ++ map (λ (r : Rank). record { 0 = r.2 }) l.id-iterator ≡ group_order l.groups
