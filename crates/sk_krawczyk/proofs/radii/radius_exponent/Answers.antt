use Rattle.std.proofs.Common.{◌≡◌, ◌*◌, arith, ap, sym, ◌∙◌}
use Rattle.std.proofs.lemmas.Int.{ints}
use Rattle.sk_num.specs.Ends.{mag}
use Rattle.sk_krawczyk.specs.Box.{least_exponent}
use Rattle.sk_krawczyk.specs.RadiusLaws.{radius_exponent-is}
use Rattle.sk_krawczyk.proofs.radii.radius_exponent.Goals as goal

pub returns-clause-value : goal.returns-clause-value
returns-clause-value g c =
    let e : c.loop-k.k ≡ 60 = omega arith in
    let n : 2 * c.unsigned_abs.result ≡ 2 * mag c.args.step.now = omega (arith, ints) in
    c.loop-k.invariant.is ∙ ap (λ n. least_exponent c.loop-k.k n) n ∙ sym (radius_exponent-is c.loop-k.k c.args.step.now e)
