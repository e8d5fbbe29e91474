use Rattle.std.proofs.Common.{◌≡◌, ◌<◌, ◌++◌, ◌∷◌, [], ap, ◌∙◌, arith, length, to_z, of_z}
use Rattle.std.specs.Int.{w8}
use Rattle.std.proofs.lemmas.Int.{ints}
use Rattle.sk_krawczyk.specs.Answers.{IsRadiusLog}
use Rattle.sk_krawczyk.proofs.CertificateLemmas.{logs-more, all-more}
use Rattle.sk_krawczyk.proofs.radii.radius_logs.Goals as goal

pub loop-i-preserved : goal.loop-i-preserved
loop-i-preserved g c =
    let inside : c.loop-i.i < length c.args.step.now = omega (arith, c.loop-i-test.true, ap length c.as_slice-i-end.ensures) in
    let e : to_z w8 (of_z w8 c.log_at.result) ≡ c.log_at.result = omega (arith, ints) in
    let items = c.in_ok-push.ensures.items ∙ ap (λ x. c.loop-i.logs.items ++ x ∷ []) e in
    record {
      values = logs-more g.row.S c.args.step.now c.loop-i.i c.loop-i.logs.items _ c.log_at.result inside c.loop-i.invariant.values c.log_at.ensures.value items;
      forms = all-more (IsRadiusLog g.row.S) c.loop-i.logs.items _ c.log_at.result c.loop-i.invariant.forms c.log_at.ensures.form items;
    }
