use Rattle.std.proofs.Common.{◌∙◌}
use Rattle.sk_chain.proofs.Reaching.{dirty_whole}
use Rattle.sk_chain.proofs.dirty.dirty_set.Goals as goal

pub returns : goal.returns
returns g c = dirty_whole c.args.model.now.lists c.args.outline.now.entities c.args.outline.now.order c.in_ok-places.places.keys c.in_ok-table.table.items c.args.changed c.in_ok-dirty.dirty.keys _ (c.in_ok-places.ensures.places ∙ c.as_slice-order.ensures) (rw c.as_slice.ensures at c.in_ok-table.ensures) (rw c.as_slice-2.ensures.value at c.in_ok-dirty.ensures) (rw c.as_slice-order.ensures at c.in_ok-groups.ensures)
