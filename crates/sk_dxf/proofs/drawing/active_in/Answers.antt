use Rattle.std.proofs.Common.{◌∙◌}
use Rattle.sk_dxf.proofs.TextLemmas.{active_here}
use Rattle.sk_dxf.proofs.drawing.active_in.Goals as goal

pub returns-then-id-group : goal.returns-then-id-group
returns-then-id-group g c =
    active_here c.args.id.0 c.args.groups.now c.loop-group.group-index c.group-item.result c.loop-group-test.true c.group-item.is c.if-id-group.true
    ∙ c.loop-group.invariant
