use Rattle.std.proofs.Common.{Err, ap}
use Rattle.std.proofs.lemmas.Result.{IfOk-weaker}
use Rattle.sk_app.specs.Lent.{command, shown}
use Rattle.sk_app.proofs.Opened.{model_done, part_stopped, with_facts}
use Rattle.sk_app.proofs.opening.over_model.Goals as goal

pub returns-in-Err-clause-answer : goal.returns-in-Err-clause-answer
returns-in-Err-clause-answer g c =
    IfOk-weaker c.stopped.result _ _
    (λ p h. part_stopped _ _ (command c.args.command.now) c.args.model (shown p) c.args.steps.now c.groups.result.now c.in-Err.fault c.part_stop.result
    c.groups.ensures.groups c.in-Err.ensures.reads (λ group e. (c.in-Err.ensures.unread group (ap Err e)).0) c.part_stop.ensures h)
    c.stopped.ensures

pub returns-clause-answer : goal.returns-clause-answer
returns-clause-answer g c =
    with_facts c.over_parts.result
    (λ p same steps sound. model_done _ _ (command c.args.command.now) c.args.model (shown p) c.args.steps.now c.over_parts.new.steps c.in-Ok.parts c.in-Ok.ensures.reads same steps sound)
    c.over_parts.ensures.answer c.over_parts.ensures.steps c.over_parts.ensures.sound
