use Rattle.std.proofs.Common.{◌++◌, ◌∷◌, [], ◌+◌, List, refl, sym, subst, ap, ◌∙◌, get_or}
use Rattle.std.proofs.lemmas.List.{get_or_default}
use Rattle.sk_types.specs.declared.entity.ParamValue.{ParamValue}
use Rattle.sk_regen.specs.GroupWorks.{nought}
use Rattle.sk_regen.proofs.Noughts.{noughts, noughts-gives}
use Rattle.sk_regen.proofs.Pushing.{PushedAt, pushed-more, pushed-all}
use Rattle.sk_regen.proofs.blank.push_noughts.Goals as goal

pub loop-id-init : goal.loop-id-init
loop-id-init g c = refl

pub loop-id-preserved : goal.loop-id-preserved
loop-id-preserved g c =
    let whole = c.args.params.now.items ++ noughts c.args.ids.now in
    subst (λ (qs : List (ParamValue g.row.S)). PushedAt noughts (λ p. nought p ∷ []) noughts-gives c.args.ids.now whole qs (c.loop-id.id-index + 1)) (sym (c.in_ok-push.ensures.items ∙ ap (λ (q : ParamValue g.row.S). c.loop-id.params.items ++ q ∷ []) c.nought.ensures))
    (pushed-more noughts (λ p. nought p ∷ []) noughts-gives c.args.ids.now whole c.loop-id.params.items c.loop-id.id-index (get_or c.args.ids.now c.loop-id.id-index (record { 0 = 0 })) c.loop-id-test.true (get_or_default c.args.ids.now c.loop-id.id-index (record { 0 = 0 }) (get_or c.args.ids.now c.loop-id.id-index (record { 0 = 0 })) c.loop-id-test.true) c.loop-id.invariant)

pub returns : goal.returns
returns g c = pushed-all noughts (λ p. nought p ∷ []) noughts-gives c.args.ids.now (c.args.params.now.items ++ noughts c.args.ids.now) c.loop-id.params.items c.loop-id.id-index refl c.loop-id-test.false c.loop-id.invariant
