use Rattle.std.proofs.lemmas.Result.{IfOk-weaker}
use Rattle.sk_app.specs.Command.{Asked}
use Rattle.sk_app.specs.Lent.{command, shown}
use Rattle.sk_app.proofs.Endings.{rose_since, rose_later}
use Rattle.sk_app.proofs.Opened.{text_read, text_stopped}
use Rattle.sk_app.proofs.opening.at_scale.Goals as goal

pub returns-in-Err-clause-answer : goal.returns-in-Err-clause-answer
returns-in-Err-clause-answer g c =
    let asked : Asked = record { scale = g.row.S; command = command c.args.command.now } in
    IfOk-weaker c.stopped.result _ _ (λ p h. text_stopped _ _ _ (λ rose. rose) asked (shown p) c.args.steps.now c.in-Err.stop c.in-Err.ensures.text h) c.stopped.ensures

pub returns-clause-answer : goal.returns-clause-answer
returns-clause-answer g c =
    let asked : Asked = record { scale = g.row.S; command = command c.args.command.now } in
    IfOk-weaker c.over_text.result _ _
    (λ p h. text_read _ _ _ _ (λ rose. rose_later _ _ _ c.over_text.ensures.later rose) (λ rose. rose_since _ _ _ c.in-Ok.ensures.later rose) asked (shown p) c.args.steps.now c.over_text.new.steps
    c.in-Ok.text.items c.in-Ok.ensures.text (rw c.in-Ok.ensures.files at h))
    c.over_text.ensures.answer
