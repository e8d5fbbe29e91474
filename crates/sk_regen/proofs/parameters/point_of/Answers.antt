use Rattle.std.proofs.Common.{◌+◌, List, refl, sym, ◌∙◌, subst, ap}
use Rattle.std.specs.Prelude.{ℤ}
use Rattle.sk_regen.specs.GroupWorks.{is_one_of}
use Rattle.sk_regen.proofs.Steps.{PointAt, point-more, point-same, point-all}
use Rattle.sk_regen.proofs.parameters.point_of.Goals as goal
use Rattle.sk_regen.proofs.parameters.point_of.Goals.{then-is_one_of+in_ok-push, else-is_one_of}

pub loop-param-init : goal.loop-param-init
loop-param-init g c = rw c.new-point.ensures.items refl

pub loop-param-preserved : goal.loop-param-preserved
loop-param-preserved g c =
    let t = is_one_of c.args.unknowns.now in
    let ps = c.args.params.now in
    elim c.if-is_one_of.branch [
      | then-is_one_of+in_ok-push w ↦ subst (λ (zs : List ℤ). PointAt t ps zs (c.loop-param.param-index + 1)) (sym (ap (λ v. v.items) w.point-is ∙ w.in_ok-push.ensures.items))
          (point-more t ps c.loop-param.point.items c.loop-param.param-index c.param-item.result c.loop-param-test.true c.param-item.is (sym c.is_one_of.ensures ∙ w.if-is_one_of.true) c.loop-param.invariant)
      | else-is_one_of w ↦ subst (λ (zs : List ℤ). PointAt t ps zs (c.loop-param.param-index + 1)) (sym (ap (λ v. v.items) w.point-is))
          (point-same t ps c.loop-param.point.items c.loop-param.param-index c.param-item.result c.loop-param-test.true c.param-item.is (sym c.is_one_of.ensures ∙ w.if-is_one_of.false) c.loop-param.invariant)
    ]

pub returns : goal.returns
returns g c = point-all (is_one_of c.args.unknowns.now) c.args.params.now c.loop-param.point.items c.loop-param.param-index c.loop-param-test.false c.loop-param.invariant
