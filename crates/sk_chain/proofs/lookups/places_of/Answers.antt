use Rattle.sk_chain.proofs.Distinct.{places_step}
use Rattle.sk_chain.proofs.lookups.places_of.Goals as goal

pub loop-group-preserved : goal.loop-group-preserved
loop-group-preserved c =
    places_step c.args.order.now c.loop-group.group-index (record { 0 = 0 }) c.loop-group.places.keys _ c.requires c.loop-group-test.true c.loop-group.invariant c.in_ok-insert.ensures.keys
