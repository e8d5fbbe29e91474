use Rattle.std.proofs.Common.{refl, sym}
use Rattle.std.proofs.lemmas.Result.{IfOk-weaker}
use Rattle.sk_app.specs.Lent.{asked, shown, words_of}
use Rattle.sk_app.proofs.Opened.{words_done, words_refused}
use Rattle.sk_app.proofs.opening.prepare.Goals as goal

pub returns-in_default-clause-answer : goal.returns-in_default-clause-answer
returns-in_default-clause-answer g c =
    IfOk-weaker c.refused.result _ _ (λ p h. words_refused (words_of c.args.words.now) _ _ (shown p) c.args.steps.now c.args.steps.now (sym c.in_default.ensures) h refl) c.refused.ensures

pub returns-clause-answer : goal.returns-clause-answer
returns-clause-answer g c =
    IfOk-weaker c.asked_for.result _ _
    (λ p h. words_done (words_of c.args.words.now) _ _ (shown p) c.args.steps.now c.asked_for.new.steps (asked c.in-Some.asked) (sym c.in-Some.ensures) h)
    c.asked_for.ensures.answer
