use Rattle.sk_system.proofs.Needed.{needed-from}
use Rattle.sk_system.proofs.parts.needed.Goals as goal

pub returns : goal.returns
returns g c = needed-from c.args.c.now c.args.kind c.loop-need.need-index c.loop-need.ids.items c.needs-needs.result c.needs-needs.ensures.parts c.needs-needs.ensures.few c.loop-need-test.false c.loop-need.invariant
