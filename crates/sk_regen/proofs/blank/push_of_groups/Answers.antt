use Rattle.std.proofs.Common.{◌++◌, ◌+◌, ◌≡◌, List, refl, sym, subst, ap, ◌∙◌}
use Rattle.sk_types.specs.declared.entity.ParamValue.{ParamValue}
use Rattle.sk_types.specs.Params.{group_params}
use Rattle.sk_regen.proofs.Noughts.{noughts, noughts_of, noughts_of-gives}
use Rattle.sk_regen.proofs.Pushing.{PushedAt, pushed-more, pushed-all}
use Rattle.sk_regen.proofs.blank.push_of_groups.Goals as goal

pub loop-group-init : goal.loop-group-init
loop-group-init g c = refl

pub loop-group-preserved : goal.loop-group-preserved
loop-group-preserved g c =
    let whole = c.args.params.now.items ++ noughts_of group_params c.args.groups.now in
    let pushed : c.push_noughts.new.params.items ≡ c.loop-group.params.items ++ noughts (group_params c.group-item.result) = c.in_ok-push_noughts.ensures ∙ ap (λ ids. c.loop-group.params.items ++ noughts ids) (c.deref.ensures.value ∙ c.in_ok-group_params.ensures) in
    subst (λ (qs : List (ParamValue g.row.S)). PushedAt (noughts_of group_params) (λ x. noughts (group_params x)) (noughts_of-gives group_params) c.args.groups.now whole qs (c.loop-group.group-index + 1)) (sym pushed)
    (pushed-more (noughts_of group_params) (λ x. noughts (group_params x)) (noughts_of-gives group_params) c.args.groups.now whole c.loop-group.params.items c.loop-group.group-index c.group-item.result c.loop-group-test.true c.group-item.is c.loop-group.invariant)

pub returns : goal.returns
returns g c = pushed-all (noughts_of group_params) (λ x. noughts (group_params x)) (noughts_of-gives group_params) c.args.groups.now (c.args.params.now.items ++ noughts_of group_params c.args.groups.now) c.loop-group.params.items c.loop-group.group-index refl c.loop-group-test.false c.loop-group.invariant
