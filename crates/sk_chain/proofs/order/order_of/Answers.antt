use Rattle.std.proofs.Common.{ap, ◌∙◌}
use Rattle.std.specs.BTreeSet.{insert_key}
use Rattle.sk_model.specs.Typed.{group_handle}
use Rattle.sk_copy.specs.Order.{in_order}
use Rattle.sk_chain.specs.Order.{comes_before}
use Rattle.sk_chain.proofs.Orders.{rank_of, rank_cmp, rank_agrees, keys_step, ids_of_ranks, order_length, order_read_distinct}
use Rattle.sk_chain.proofs.order.order_of.Goals as goal

pub loop-group-init : goal.loop-group-init
unfolding in_order
loop-group-init g c = c.new-ranks.ensures.empty

pub loop-group-preserved : goal.loop-group-preserved
loop-group-preserved g c =
    keys_step rank_of rank_cmp comes_before group_handle rank_agrees c.args.groups.now c.loop-group.group-index c.group-item.result c.loop-group.ranks.keys _ c.requires c.loop-group-test.true c.loop-group.invariant
    (c.in_ok-insert.ensures.keys ∙ ap (insert_key rank_cmp c.loop-group.ranks.keys) (c.rank.ensures ∙ ap rank_of c.group-item.is))

pub loop-id-init : goal.loop-id-init
loop-id-init g c =
    rw (c.new-order.ensures.items, c.into_iter-id-iterator.ensures.into_iter_gives, c.iter-id-items.ensures.rest) (ids_of_ranks c.args.groups.now c.loop-group.group-index c.loop-group.ranks.keys c.loop-group.invariant c.loop-group-test.false)

pub returns-clause-distinct : goal.returns-clause-distinct
returns-clause-distinct g c = order_read_distinct c.args.groups.now c.loop-id.order.items _ c.requires c.loop-id.invariant c.in-None.ensures.steps.0

pub returns-clause-length : goal.returns-clause-length
returns-clause-length g c = order_length c.args.groups.now c.loop-id.order.items _ c.loop-id.invariant c.in-None.ensures.steps.0
