use Rattle.std.proofs.Common.{◌+◌, List, refl, sym, ◌∙◌, subst, ap}
use Rattle.sk_types.specs.declared.entity.ParamValue.{ParamValue}
use Rattle.sk_regen.specs.GroupWorks.{is_one_of}
use Rattle.sk_regen.proofs.Steps.{FixedAt, fixed-more, fixed-same, fixed-all}
use Rattle.sk_regen.proofs.parameters.fixed_of.Goals as goal
use Rattle.sk_regen.proofs.parameters.fixed_of.Goals.{then-not-is_one_of+in_ok-push, else-not-is_one_of}

pub loop-param-init : goal.loop-param-init
loop-param-init g c = rw c.new-fixed.ensures.items refl

pub loop-param-preserved : goal.loop-param-preserved
loop-param-preserved g c =
    let t = is_one_of c.args.unknowns.now in
    let ps = c.args.params.now in
    elim c.if-not-is_one_of.branch [
      | then-not-is_one_of+in_ok-push w ↦ subst (λ (qs : List (ParamValue g.row.S)). FixedAt t ps qs (c.loop-param.param-index + 1)) (sym (ap (λ v. v.items) w.fixed-is ∙ w.in_ok-push.ensures.items))
          (fixed-more t ps c.loop-param.fixed.items c.loop-param.param-index c.param-item.result c.loop-param-test.true c.param-item.is (sym c.is_one_of.ensures ∙ w.if-not-is_one_of.true) c.loop-param.invariant)
      | else-not-is_one_of w ↦ subst (λ (qs : List (ParamValue g.row.S)). FixedAt t ps qs (c.loop-param.param-index + 1)) (sym (ap (λ v. v.items) w.fixed-is))
          (fixed-same t ps c.loop-param.fixed.items c.loop-param.param-index c.param-item.result c.loop-param-test.true c.param-item.is (sym c.is_one_of.ensures ∙ w.if-not-is_one_of.false) c.loop-param.invariant)
    ]

pub returns : goal.returns
returns g c = fixed-all (is_one_of c.args.unknowns.now) c.args.params.now c.loop-param.fixed.items c.loop-param.param-index c.loop-param-test.false c.loop-param.invariant
