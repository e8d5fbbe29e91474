use Rattle.std.proofs.Common.{rules, ◌≡◌, ◌≤◌, ◌+◌, unsigned_abs, to_z, of_z}
use mir.Syntax.{w128}
use Rattle.sk_cubic.proofs.CurveLemmas.{mixed-fits}
use Rattle.sk_cubic.proofs.points.mixed.Goals as goal

pub returns-clause-fits : goal.returns-clause-fits
returns-clause-fits g c =
    let e : to_z w128 (of_z w128 c.sum.result) ≡ c.sum.result = search rules in
    let r : unsigned_abs c.sum.result ≤ unsigned_abs c.pair-start.result + unsigned_abs c.pair-end.result = search rules in
    rw e (mixed-fits c.args.i c.weights.result c.pair-start.result c.pair-end.result c.sum.result c.requires c.weights.ensures c.pair-start.ensures.fits c.pair-end.ensures.fits r)
