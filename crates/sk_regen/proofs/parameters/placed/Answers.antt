use Rattle.std.proofs.Common.{◌+◌, sym, ◌∙◌, subst, ap}
use Rattle.sk_regen.specs.GroupWorks.{is_one_of}
use Rattle.sk_regen.proofs.Steps.{PlacedAt, placed-first, placed-moved, placed-kept, placed-ended, placed-pushed, placed-all}
use Rattle.sk_regen.proofs.parameters.placed.Goals as goal
use Rattle.sk_regen.proofs.parameters.placed.Goals.{then-is_one_of+in-Some, then-is_one_of+in_default, else-is_one_of}

pub loop-param-init : goal.loop-param-init
loop-param-init g c = placed-first (is_one_of c.args.unknowns.now) c.args.params.now c.args.point.now c.new-kept.result.items c.iter-values.result.rest.now c.new-kept.ensures.items c.iter-values.ensures.rest

pub loop-param-preserved : goal.loop-param-preserved
loop-param-preserved g c =
    let t = is_one_of c.args.unknowns.now in
    let ps = c.args.params.now in
    let x = c.args.point.now in
    let i = c.loop-param.param-index in
    let made = c.loop-param.kept.items in
    let p = c.param-item.result in
    let old = c.loop-param.values.rest.now in
    let end = c.if-is_one_of.values.rest.now in
    let items = c.in_ok-push.ensures.items in
    let inside = c.loop-param-test.true in
    let is = c.param-item.is in
    let before = c.loop-param.invariant in
    elim c.if-is_one_of.branch [
      | then-is_one_of+in-Some w ↦ placed-pushed t ps x c.push.new.self.items made c.if-is_one_of.now _ end w.next.new.self.rest.now (i + 1) items w.now-is (ap (λ v. v.rest.now) w.values-is)
          (placed-moved t ps x made i p w.in-Some.value.now w.next.new.self.rest.now inside is (sym w.if-is_one_of.ensures) (subst (PlacedAt t ps x made i) w.in-Some.ensures.steps before))
      | then-is_one_of+in_default w ↦ placed-pushed t ps x c.push.new.self.items made c.if-is_one_of.now p end old (i + 1) items w.now-is (ap (λ v. v.rest.now) w.values-is ∙ ap (λ v. v.rest.now) w.in_default.ensures.steps.1)
          (placed-ended t ps x made i p old inside is w.in_default.ensures.steps.0 before)
      | else-is_one_of w ↦ placed-pushed t ps x c.push.new.self.items made c.if-is_one_of.now p end old (i + 1) items w.now-is (ap (λ v. v.rest.now) w.values-is)
          (placed-kept t ps x made i p old inside is (sym w.if-is_one_of.ensures) before)
    ]

pub returns : goal.returns
returns g c = placed-all (is_one_of c.args.unknowns.now) c.args.params.now c.args.point.now c.loop-param.kept.items c.loop-param.param-index c.loop-param.values.rest.now c.loop-param-test.false c.loop-param.invariant
