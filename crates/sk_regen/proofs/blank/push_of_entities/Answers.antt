use Rattle.std.proofs.Common.{◌++◌, ◌+◌, ◌≡◌, List, refl, sym, subst, ap, ◌∙◌}
use Rattle.sk_types.specs.declared.entity.ParamValue.{ParamValue}
use Rattle.sk_types.specs.Params.{own_params}
use Rattle.sk_regen.proofs.Noughts.{noughts, noughts_of, noughts_of-gives}
use Rattle.sk_regen.proofs.Pushing.{PushedAt, pushed-more, pushed-all}
use Rattle.sk_regen.proofs.blank.push_of_entities.Goals as goal

pub loop-entity-init : goal.loop-entity-init
loop-entity-init g c = refl

pub loop-entity-preserved : goal.loop-entity-preserved
loop-entity-preserved g c =
    let whole = c.args.params.now.items ++ noughts_of own_params c.args.entities.now in
    let pushed : c.push_noughts.new.params.items ≡ c.loop-entity.params.items ++ noughts (own_params c.entity-item.result) = c.in_ok-push_noughts.ensures ∙ ap (λ ids. c.loop-entity.params.items ++ noughts ids) (c.deref.ensures.value ∙ c.in_ok-own_params.ensures) in
    subst (λ (qs : List (ParamValue g.row.S)). PushedAt (noughts_of own_params) (λ x. noughts (own_params x)) (noughts_of-gives own_params) c.args.entities.now whole qs (c.loop-entity.entity-index + 1)) (sym pushed)
    (pushed-more (noughts_of own_params) (λ x. noughts (own_params x)) (noughts_of-gives own_params) c.args.entities.now whole c.loop-entity.params.items c.loop-entity.entity-index c.entity-item.result c.loop-entity-test.true c.entity-item.is c.loop-entity.invariant)

pub returns : goal.returns
returns g c = pushed-all (noughts_of own_params) (λ x. noughts (own_params x)) (noughts_of-gives own_params) c.args.entities.now (c.args.params.now.items ++ noughts_of own_params c.args.entities.now) c.loop-entity.params.items c.loop-entity.entity-index refl c.loop-entity-test.false c.loop-entity.invariant
