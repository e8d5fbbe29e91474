use Rattle.sk_types.proofs.Circles.{arcs_counted, few_arcs}
use Rattle.sk_types.proofs.sizes.arcs_of.Goals as goal

pub returns-clause-value : goal.returns-clause-value
returns-clause-value g c =
    let n = c.needs-need-items.ensures in
    arcs_counted c.args.entities.now c.args.constraint.now c.needs-need-items.result n.parts n.few c.loop-need.need-index c.loop-need.arcs c.loop-need-test.false c.loop-need.invariant

pub returns-clause-few : goal.returns-clause-few
returns-clause-few g c = rw (returns-clause-value g c) (few_arcs c.args.entities.now c.args.constraint.now)
