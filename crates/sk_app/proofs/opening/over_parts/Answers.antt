use Rattle.std.proofs.Common.{◌≡◌, inl, inr, ℕ, ◌+◌, Result, Err, sym, ap, ◌∙◌, subst, arith}
use Rattle.std.specs.Prelude.{IfOk}
use Rattle.std.proofs.lemmas.Result.{IfOk-weaker}
use Rattle.sk_model.specs.declared.faults.ModelFault.TheVariants.{NoMemory as Wanting}
use Rattle.sk_app.specs.Answer.{Accepted, IsSoundModel, accepted_with, answered}
use Rattle.sk_app.specs.Fault.{Fault, BadModel}
use Rattle.sk_app.specs.Lent.{command}
use Rattle.sk_app.specs.Prepares.{steps_over, worked}
use Rattle.sk_app.proofs.Opened.{always, on_ok, over_refused, over_same, over_sound, over_steps}
use Rattle.sk_app.proofs.opening.over_parts.Goals as goal

pub returns-in-Err : goal.returns-in-Err
returns-in-Err g c =
    let s = g.row.S in
    let m = c.args.model in
    let parts = c.args.parts in
    let f = c.in-Err.fault in
    let asked = command c.args.command.now in
    let refused : (f ≡ Wanting → ⊥) → accepted_with m parts ≡ Err (BadModel f) = λ other. over_refused asked m parts f (elim c.in-Err.ensures.value [ inl e ↦ absurd (other e) | inr e ↦ e ]) in
    let still : (f ≡ Wanting → ⊥) → c.over.new.steps ≡ c.args.steps.now = λ other. elim c.in-Err.ensures.refused [ inl e ↦ absurd (other e) | inr e ↦ e ] in
    record {
      answer = IfOk-weaker c.refused_model.result _ _ (λ p h. h.0 ∙ ap (λ (a : Result (Accepted s) Fault). answered (worked asked a)) (sym (refused h.1))) c.refused_model.ensures;
      steps = on_ok c.refused_model.result
          (λ p h. subst (λ (a : Result (Accepted s) Fault). c.over.new.steps ≡ c.args.steps.now + steps_over a) (sym (refused h.1)) (let e = still h.1 in omega (arith, e))) c.refused_model.ensures;
      sound = on_ok c.refused_model.result (λ p h. subst (λ (a : Result (Accepted s) Fault). IfOk a IsSoundModel) (sym (refused h.1)) tt) c.refused_model.ensures;
    }

pub returns-clause-answer : goal.returns-clause-answer
returns-clause-answer g c =
    IfOk-weaker c.work_for.result _ _ (λ p h. h ∙ ap answered (sym (over_same (command c.args.command.now) c.args.model c.args.parts c.in-Ok.session c.in-Ok.ensures.value))) c.work_for.ensures

pub returns-clause-steps : goal.returns-clause-steps
returns-clause-steps g c =
    always c.work_for.result (c.in-Ok.ensures.steps ∙ ap (λ (n : ℕ). c.args.steps.now + n) (sym (over_steps (command c.args.command.now) c.args.model c.args.parts c.in-Ok.session c.in-Ok.ensures.value)))

pub returns-clause-sound : goal.returns-clause-sound
returns-clause-sound g c = always c.work_for.result (over_sound (command c.args.command.now) c.args.model c.args.parts c.in-Ok.ensures.sound)
