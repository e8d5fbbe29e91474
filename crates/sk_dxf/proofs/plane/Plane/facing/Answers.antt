use Rattle.std.proofs.Common.{ap, ◌∙◌}
use Rattle.std.specs.Option.{option_map}
use Rattle.sk_num.specs.Ends.{mid}
use Rattle.sk_dxf.proofs.SpanLemmas.{facing-is}
use Rattle.sk_dxf.proofs.plane.Plane.facing.Goals as goal

pub returns : goal.returns
returns g c =
    let inside = c.self.inside in
    rw (← c.self.view_is)
    (c.reading.ensures ∙ ap (option_map mid) c.dot.ensures ∙ facing-is g.row.S (record { origin = inside.origin; normal = inside.normal }) c.args.normal.now c.axis_n-n.result inside.n
    c.axis_n-n.ensures c.self.invariant.2)
