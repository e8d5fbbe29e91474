use Rattle.std.proofs.Common.{◌≡◌, ℤ, List, [], ◌∷◌, ◌∙◌, arith}
use Rattle.std.proofs.lemmas.Grind.{common_steps}
use Rattle.sk_cubic.specs.CurvePoint.{curve_components}
use Rattle.sk_cubic.proofs.CurveLemmas.{components-start, components-last}
use Rattle.sk_cubic.proofs.points.between.Goals as goal

pub returns-clause-start : goal.returns-clause-start
returns-clause-start g c e =
    let v : ◌≡◌ {A = List ℤ} (c.curve_number.result ∷ c.curve_number-2.result ∷ c.curve_number-3.result ∷ []) (curve_components c.args.i c.args.a.now c.args.b.now c.args.c.now c.args.d.now) = grind (arith, common_steps) in
    v ∙ rw e (components-start 3 c.args.a.now c.args.b.now c.args.c.now c.args.d.now c.told-a c.told-b c.told-c c.told-d)

pub returns-clause-last : goal.returns-clause-last
returns-clause-last g c e =
    let v : ◌≡◌ {A = List ℤ} (c.curve_number.result ∷ c.curve_number-2.result ∷ c.curve_number-3.result ∷ []) (curve_components c.args.i c.args.a.now c.args.b.now c.args.c.now c.args.d.now) = grind (arith, common_steps) in
    v ∙ rw e (components-last 3 c.args.a.now c.args.b.now c.args.c.now c.args.d.now c.told-a c.told-b c.told-c c.told-d)
