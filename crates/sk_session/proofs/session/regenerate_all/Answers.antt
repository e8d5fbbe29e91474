use Rattle.std.proofs.Common.{◌∙◌, ap}
use Rattle.sk_model.specs.Changes.{with_params}
use Rattle.sk_regen.specs.declared.state.State.{State}
use Rattle.sk_regen.specs.NewText.{text_with}
use Rattle.sk_session.proofs.Everyone.{over-all, all-sound, all-steps}
use Rattle.sk_session.proofs.session.regenerate_all.Goals as goal

pub returns-clause-report : goal.returns-clause-report
returns-clause-report g c =
    let over = over-all c.args.model.lists c.args.outline.now c.of.result c.deref.result.now (c.deref.ensures.value ∙ c.in_ok-groups.ensures) in
    c.in_ok-done.ensures.report ∙ ap (λ (x : State g.row.S). x.members) over

pub returns-clause-numbers : goal.returns-clause-numbers
returns-clause-numbers g c =
    let over = over-all c.args.model.lists c.args.outline.now c.of.result c.deref.result.now (c.deref.ensures.value ∙ c.in_ok-groups.ensures) in
    c.in_ok-done.ensures.numbers ∙ ap (λ (x : State g.row.S). x.numbers) over

pub returns-clause-sound : goal.returns-clause-sound
returns-clause-sound g c =
    all-sound c.args.model.lists c.args.outline.now c.of.result c.deref.result.now (c.deref.ensures.value ∙ c.in_ok-groups.ensures) c.in_ok-done.ensures.sound

pub returns-clause-blocks : goal.returns-clause-blocks
returns-clause-blocks g c =
    let m = c.args.model in
    let over = over-all m.lists c.args.outline.now c.of.result c.deref.result.now (c.deref.ensures.value ∙ c.in_ok-groups.ensures) in
    c.in_ok-done.ensures.blocks ∙ ap (λ (x : State g.row.S). text_with x.numbers m.lists c.args.outline.now m.blocks) over

pub returns-clause-lists : goal.returns-clause-lists
returns-clause-lists g c =
    let m = c.args.model in
    let over = over-all m.lists c.args.outline.now c.of.result c.deref.result.now (c.deref.ensures.value ∙ c.in_ok-groups.ensures) in
    c.in_ok-done.ensures.lists ∙ ap (λ (x : State g.row.S). record m.lists { params = with_params x.numbers.params m.lists.params }) over

pub returns-clause-steps : goal.returns-clause-steps
returns-clause-steps g c =
    all-steps c.args.model.lists c.args.outline.now c.of.result c.deref.result.now (c.deref.ensures.value ∙ c.in_ok-groups.ensures) c.args.steps.now c.into_regenerated.new.steps c.in_ok-done.ensures.steps
