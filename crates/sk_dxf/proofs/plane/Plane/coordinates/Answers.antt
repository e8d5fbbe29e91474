use Rattle.std.proofs.Common.{◌∙◌}
use Rattle.sk_dxf.proofs.SpanLemmas.{coordinates-are}
use Rattle.sk_dxf.proofs.plane.Plane.coordinates.Goals as goal

pub returns : goal.returns
returns g c =
    let inside = c.self.inside in
    rw (← c.self.view_is)
    (c.along_three.ensures ∙ coordinates-are g.row.S (record { origin = inside.origin; normal = inside.normal }) c.args.p.now c.from_origin-d.result inside.u inside.v inside.n
    c.from_origin-d.ensures c.self.invariant.0 c.self.invariant.1 c.self.invariant.2)
