use Rattle.sk_chain.proofs.Reaching.{reaches_start, reaches_more}
use Rattle.sk_chain.proofs.dirty.reach.Goals as goal

pub loop-later-init : goal.loop-later-init
loop-later-init c = reaches_start c.args.places.now.keys c.args.group c.args.dirty.now.keys

pub loop-later-preserved : goal.loop-later-preserved
loop-later-preserved c = reaches_more c.args.places.now.keys c.args.list.now c.loop-later.later-index _ c.args.group c.args.dirty.now.keys c.loop-later.dirty.keys _ c.loop-later-test.true c.loop-later.invariant c.in_ok-reach_one.ensures
