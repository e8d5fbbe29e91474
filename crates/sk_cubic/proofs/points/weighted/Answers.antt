use Rattle.std.proofs.Common.{rules, ◌≡◌, ◌≤◌, ◌^◌, pos, ◌*ℤ◌, unsigned_abs, to_z, of_z}
use mir.Syntax.{w128}
use Rattle.sk_cubic.proofs.CurveLemmas.{product-fits}
use Rattle.sk_cubic.proofs.points.weighted.Goals as goal

pub returns-clause-fits : goal.returns-clause-fits
returns-clause-fits g c =
    let e : to_z w128 (of_z w128 c.product.result) ≡ c.args.a *ℤ pos c.args.weight = search rules in
    let l : unsigned_abs c.args.a ≤ 2 ^ 62 = search rules in
    rw e (product-fits c.args.a c.args.weight l)
