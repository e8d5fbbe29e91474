use Rattle.std.proofs.Common.{◌∙◌}
use Rattle.sk_dxf.proofs.SpanLemmas.{leaning-is}
use Rattle.sk_dxf.proofs.plane.Plane.leaning.Goals as goal

pub returns : goal.returns
returns g c =
    let inside = c.self.inside in
    rw (← c.self.view_is)
    (c.along_two.ensures ∙ leaning-is g.row.S (record { origin = inside.origin; normal = inside.normal }) c.args.normal.now c.axis_n-n.result inside.u inside.v
    c.axis_n-n.ensures c.self.invariant.0 c.self.invariant.1)
