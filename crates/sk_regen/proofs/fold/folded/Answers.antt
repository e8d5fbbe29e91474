use Rattle.std.proofs.Common.{◌≡◌, ◌∙◌, true, ap, sym, subst, lit≤}
use Rattle.sk_regen.specs.Below.{model_works}
use Rattle.sk_regen.specs.Ground.{BoxesSound}
use Rattle.sk_regen.specs.Regeneration.{State, left_over, folded, is_listed, at_references}
use Rattle.sk_regen.proofs.Foldings.{EachAt, references-are, fold-more, fold-all, each-first, each-more, each-all, count-none, count-more, count-all}
use Rattle.sk_regen.proofs.fold.folded.Goals as goal

pub loop-group-init : goal.loop-group-init
loop-group-init g c =
    let m = c.args.ground.now.model.now.lists in
    let o = c.args.ground.now.outline.now in
    record {
      fold = ap (λ (st : State g.row.S). folded (left_over (model_works m o) m.params c.args.dirty.now c.args.before.now) c.args.order.now st) (references-are m o c.in_ok-first_numbers.field-0 c.of.result c.in_ok-first_numbers.ensures.value (c.of.ensures ∙ c.new.ensures.items));
      whole = c.in_ok-first_numbers.ensures.whole;
      sound = subst (λ (st : State g.row.S). EachAt (left_over (model_works m o) m.params c.args.dirty.now c.args.before.now) c.args.order.now (at_references (model_works m o)) (λ n h x. is_listed c.args.dirty.now h ≡ true → BoxesSound (model_works m o) n h x) st 0) (sym (references-are m o c.in_ok-first_numbers.field-0 c.of.result c.in_ok-first_numbers.ensures.value (c.of.ensures ∙ c.new.ensures.items))) (each-first (left_over (model_works m o) m.params c.args.dirty.now c.args.before.now) c.args.order.now (at_references (model_works m o)) (λ n h x. is_listed c.args.dirty.now h ≡ true → BoxesSound (model_works m o) n h x));
      count = count-none (is_listed c.args.dirty.now) c.args.order.now c.args.steps.now;
    }

pub take_group-requires : goal.take_group-requires
take_group-requires g c =
    (lit≤ tt, (lit≤ tt, (lit≤ tt, (c.requires.scale, (c.requires.places, (c.requires.checked, (c.requires.outline, (c.requires.there c.loop-group.group-index (record { 0 = 0 }) c.loop-group-test.true, c.loop-group.invariant.whole))))))))

pub loop-group-preserved : goal.loop-group-preserved
loop-group-preserved g c =
    let m = c.args.ground.now.model.now.lists in
    let o = c.args.ground.now.outline.now in
    record {
      fold = fold-more (left_over (model_works m o) m.params c.args.dirty.now c.args.before.now) c.args.order.now (at_references (model_works m o)) c.loop-group.state c.take_group.new.state c.loop-group.group-index (record { 0 = 0 })
          c.loop-group-test.true c.in_ok-take_group.ensures.value c.loop-group.invariant.fold;
      whole = c.in_ok-take_group.ensures.whole;
      sound = each-more (left_over (model_works m o) m.params c.args.dirty.now c.args.before.now) c.args.order.now (at_references (model_works m o)) (λ n h x. is_listed c.args.dirty.now h ≡ true → BoxesSound (model_works m o) n h x) c.loop-group.state c.take_group.new.state c.loop-group.group-index (record { 0 = 0 })
          c.loop-group-test.true c.in_ok-take_group.ensures.value c.in_ok-take_group.ensures.sound c.loop-group.invariant.sound;
      count = count-more (is_listed c.args.dirty.now) c.args.order.now c.args.steps.now c.loop-group.steps c.take_group.new.steps c.loop-group.group-index (record { 0 = 0 })
          c.loop-group-test.true c.in_ok-take_group.ensures.steps c.loop-group.invariant.count;
    }

pub returns-clause-value : goal.returns-clause-value
returns-clause-value g c =
    let m = c.args.ground.now.model.now.lists in
    let o = c.args.ground.now.outline.now in
    fold-all (left_over (model_works m o) m.params c.args.dirty.now c.args.before.now) c.args.order.now (at_references (model_works m o)) c.loop-group.state c.loop-group.group-index c.loop-group-test.false c.loop-group.invariant.fold

pub returns-clause-whole : goal.returns-clause-whole
returns-clause-whole g c = c.loop-group.invariant.whole

pub returns-clause-steps : goal.returns-clause-steps
returns-clause-steps g c = count-all (is_listed c.args.dirty.now) c.args.order.now c.args.steps.now c.loop-group.steps c.loop-group.group-index c.loop-group-test.false c.loop-group.invariant.count

pub returns-clause-sound : goal.returns-clause-sound
returns-clause-sound g c =
    let m = c.args.ground.now.model.now.lists in
    let o = c.args.ground.now.outline.now in
    each-all (left_over (model_works m o) m.params c.args.dirty.now c.args.before.now) c.args.order.now (at_references (model_works m o)) (λ n h x. is_listed c.args.dirty.now h ≡ true → BoxesSound (model_works m o) n h x) c.loop-group.state c.loop-group.group-index c.loop-group-test.false c.loop-group.invariant.sound
