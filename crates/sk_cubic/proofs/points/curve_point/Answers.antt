use Rattle.std.proofs.Common.{rules, ◌≡◌}
use Rattle.sk_cubic.specs.CurvePoint.{curve_point}
use Rattle.sk_cubic.proofs.CurveLemmas.{point-in_hull, point-reversed}
use Rattle.sk_cubic.proofs.points.curve_point.Goals as goal

pub returns-clause-hull : goal.returns-clause-hull
returns-clause-hull g c =
    let v : c.between.result ≡ curve_point c.args.p.now c.args.i = search rules in
    rw v (point-in_hull c.args.p.now c.args.i c.requires c.told-p)

pub returns-clause-reversed : goal.returns-clause-reversed
returns-clause-reversed g c =
    let v : c.between.result ≡ curve_point c.args.p.now c.args.i = search rules in
    rw v (point-reversed c.args.p.now c.args.i c.requires c.told-p)
