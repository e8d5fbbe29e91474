use Rattle.std.proofs.Common.{◌∙◌}
use Rattle.sk_chain.proofs.Noting.{empty_more}
use Rattle.sk_chain.proofs.dirty.empty_lists.Goals as goal

pub loop-preserved : goal.loop-preserved
loop-preserved c = empty_more c.args.order.now c.loop.index c.loop.lists.items _ c.of.result c.loop-test.true (c.of.ensures ∙ c.new.ensures.items) c.in_ok-push.ensures.items c.loop.invariant
