use Rattle.std.proofs.Common.{◌++◌, ◌+◌, List, [], ◌∷◌, refl, sym, subst, ap, ◌∙◌}
use Rattle.sk_types.specs.declared.entity.Act.{Act}
use Rattle.sk_regen.specs.GroupWorks.{all_acts}
use Rattle.sk_regen.proofs.Noughts.{act_if, acts-gives, act-there, act-none}
use Rattle.sk_regen.proofs.Pushing.{PushedAt, pushed-more, pushed-all}
use Rattle.sk_regen.proofs.blank.all_acts.Goals as goal
use Rattle.sk_regen.proofs.blank.all_acts.Goals.{then-stands+in_ok-push, else-stands}

pub loop-entity-init : goal.loop-entity-init
loop-entity-init g c = rw c.new-acts.ensures.items refl

pub loop-entity-preserved : goal.loop-entity-preserved
loop-entity-preserved g c =
    let es = c.args.entities.now in
    let made = c.loop-entity.acts.items in
    let more = pushed-more all_acts act_if acts-gives es (all_acts es) made c.loop-entity.entity-index c.entity-item.result c.loop-entity-test.true c.entity-item.is c.loop-entity.invariant in
    elim c.if-stands.branch [
      | then-stands+in_ok-push w ↦ subst (λ (qs : List (Act g.row.S)). PushedAt all_acts act_if acts-gives es (all_acts es) qs (c.loop-entity.entity-index + 1))
          (act-there made c.entity-item.result (sym c.stands.ensures ∙ w.if-stands.true) ∙ ap (λ (a : Act g.row.S). made ++ a ∷ []) (sym w.no_act.ensures) ∙ sym (ap (λ v. v.items) w.acts-is ∙ w.in_ok-push.ensures.items)) more
      | else-stands w ↦ subst (λ (qs : List (Act g.row.S)). PushedAt all_acts act_if acts-gives es (all_acts es) qs (c.loop-entity.entity-index + 1))
          (act-none made c.entity-item.result (sym c.stands.ensures ∙ w.if-stands.false) ∙ sym (ap (λ v. v.items) w.acts-is)) more
    ]

pub returns : goal.returns
returns g c = pushed-all all_acts act_if acts-gives c.args.entities.now (all_acts c.args.entities.now) c.loop-entity.acts.items c.loop-entity.entity-index refl c.loop-entity-test.false c.loop-entity.invariant
