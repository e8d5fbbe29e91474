use Rattle.std.proofs.Common.{◌∙◌, List, length, ap, sym, subst, lit≤}
use Rattle.sk_types.specs.declared.handle.ParamId.{ParamId}
use Rattle.sk_types.specs.Lookups.{RiseBy, param_handle}
use Rattle.sk_system.specs.GroupSystem.{GroupSystem}
use Rattle.sk_regen.specs.GroupWorks.{is_one_of}
use Rattle.sk_regen.proofs.Ready.{unknowns-rise}
use Rattle.sk_regen.proofs.Overs.{fixed-stand, fixed-differ, point-fits, system-unknowns, acts-are}
use Rattle.sk_regen.proofs.systems.acts_over.Goals as goal

pub fixed_of-requires : goal.fixed_of-requires
fixed_of-requires g c = (lit≤ tt, subst (λ (us : List ParamId). RiseBy param_handle us) (sym c.requires.unknowns) (unknowns-rise _ _ _ _ c.requires.ground))

pub point_of-requires : goal.point_of-requires
point_of-requires g c = (lit≤ tt, (lit≤ tt, subst (λ (us : List ParamId). RiseBy param_handle us) (sym c.requires.unknowns) (unknowns-rise _ _ _ _ c.requires.ground)))

pub system_over-requires : goal.system_over-requires
system_over-requires g c =
    let t = is_one_of c.args.unknowns.now in
    let fixed = c.deref.ensures.value ∙ c.in_ok-fixed.ensures in
    let stand = fixed-stand _ _ _ _ c.requires.ground c.args.params.now c.requires.own t c.deref.result.now fixed in
    let differ = fixed-differ _ _ _ _ c.requires.ground c.args.params.now c.requires.own t c.deref.result.now fixed in
    (lit≤ tt, (lit≤ tt, (lit≤ tt, (lit≤ tt, (lit≤ tt, (c.requires.scale, (c.requires.places, (c.requires.ground, (stand, differ)))))))))

pub acts-requires : goal.acts-requires
acts-requires g c =
    let point = c.deref-2.ensures.value ∙ c.in_ok-point.ensures in
    let long = point-fits _ _ _ _ c.requires.ground c.args.params.now c.requires.own c.args.unknowns.now c.deref-2.result.now c.requires.unknowns point in
    let system = ap (λ (y : GroupSystem). length y.unknowns) c.in_ok-system.ensures.value ∙ ap length (system-unknowns c.args.ground.now.outline.now.entities c.args.ground.now.model.now.lists.constraints c.args.numbers.now c.args.group.now c.deref.result.now) in
    (lit≤ tt, (lit≤ tt, (lit≤ tt, (c.requires.scale, long ∙ sym system))))

pub returns-clause-value : goal.returns-clause-value
returns-clause-value g c =
    acts-are c.args.ground.now.outline.now.entities c.args.ground.now.model.now.lists.constraints c.args.numbers.now c.args.group.now c.args.unknowns.now c.args.params.now c.deref.result.now c.deref-2.result.now _ _ c.requires.unknowns
    (c.deref.ensures.value ∙ c.in_ok-fixed.ensures) (c.deref-2.ensures.value ∙ c.in_ok-point.ensures) c.in_ok-system.ensures.value c.in_ok-acts.ensures
