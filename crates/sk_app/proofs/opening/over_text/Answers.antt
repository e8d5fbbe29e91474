use Rattle.std.proofs.Common.{refl}
use Rattle.std.proofs.lemmas.Result.{IfOk-weaker}
use Rattle.sk_app.specs.Lent.{command, shown}
use Rattle.sk_app.proofs.Opened.{text_done, text_unread, text_untyped}
use Rattle.sk_app.proofs.opening.over_text.Goals as goal

pub returns-in-Err-Unread-clause-answer : goal.returns-in-Err-Unread-clause-answer
returns-in-Err-Unread-clause-answer g c =
    IfOk-weaker c.refused.result _ _
    (λ p h. text_unread g.row.S _ _ (command c.args.command.now) c.args.text.items (shown p) c.args.steps.now c.args.steps.now c.in-Err-Unread.fault
    (rw c.in-Err-Unread.field-0-is at c.in-Err-Unread.ensures) h refl)
    c.refused.ensures

pub returns-in-Err-Untyped-clause-answer : goal.returns-in-Err-Untyped-clause-answer
returns-in-Err-Untyped-clause-answer g c =
    IfOk-weaker c.refused-in-Err-Untyped.result _ _
    (λ p h. text_untyped g.row.S _ _ (command c.args.command.now) c.args.text.items (shown p) c.args.steps.now c.args.steps.now c.in-Err-Untyped.fault
    (rw c.in-Err-Untyped.field-0-is at c.in-Err-Untyped.ensures) h refl)
    c.refused-in-Err-Untyped.ensures

pub returns-clause-answer : goal.returns-clause-answer
returns-clause-answer g c =
    IfOk-weaker c.over_model.result _ _
    (λ p h. text_done g.row.S _ _ (command c.args.command.now) c.args.text.items (shown p) c.args.steps.now c.over_model.new.steps c.in-Ok.model c.in-Ok.ensures h)
    c.over_model.ensures.answer
