use Rattle.std.proofs.Common.{◌≡◌, ◌∙◌, List, [], ◌∷◌, length, ap, sym, subst, lit≤}
use Rattle.std.specs.Prelude.{ℤ, Option}
use Rattle.sk_types.specs.declared.entity.Act.{Act}
use Rattle.sk_types.specs.declared.entity.Entity.{Entity}
use Rattle.sk_types.specs.declared.entity.ParamValue.{ParamValue}
use Rattle.sk_types.specs.declared.handle.ParamId.{ParamId}
use Rattle.sk_types.specs.Lookups.{Rise, RiseBy, act_handle, param_handle}
use Rattle.sk_solve.specs.Search.{verdict_over}
use Rattle.sk_solve.specs.Held.{result_by}
use Rattle.sk_krawczyk.specs.Answers.{names_at}
use Rattle.sk_geom.specs.declared.fault.FrameFault.{FrameFault}
use Rattle.sk_system.specs.GroupSystem.{GroupSystem, seen_at, acts_at}
use Rattle.sk_system.specs.SystemViews.{system_of as made_of}
use Rattle.sk_regen.specs.GroupWorks.{is_one_of, bad_frame_of}
use Rattle.sk_regen.specs.Ground.{BoxesSound, group_works}
use Rattle.sk_regen.specs.Regeneration.{Left, point_of, fixed_of, placed, unless_bad}
use Rattle.sk_regen.proofs.Grounds.{ids-started}
use Rattle.sk_regen.proofs.Leaving.{left-is, left-made, result-long, sound-is}
use Rattle.sk_regen.proofs.Overs.{fixed-stand, fixed-differ, point-fits, system-unknowns}
use Rattle.sk_regen.proofs.Ready.{most, acts-rise, unknowns-rise}
use Rattle.sk_regen.proofs.solving.left_by.Goals as goal

pub unknowns_in-requires : goal.unknowns_in-requires
unknowns_in-requires g c = (lit≤ tt, (lit≤ tt, (c.requires.places, (c.requires.ground.outline.own_fit, most _ _ _ _ c.requires.ground))))

pub fixed_of-requires : goal.fixed_of-requires
fixed_of-requires g c =
    let unknowns = c.in_ok-unknowns.ensures in
    (lit≤ tt, subst (λ (us : List ParamId). RiseBy param_handle us) (sym (c.deref.ensures.value ∙ unknowns)) (unknowns-rise _ _ _ _ c.requires.ground))

pub point_of-requires : goal.point_of-requires
point_of-requires g c =
    let unknowns = c.in_ok-unknowns.ensures in
    (lit≤ tt, (lit≤ tt, subst (λ (us : List ParamId). RiseBy param_handle us) (sym (c.deref-3.ensures.value ∙ unknowns)) (unknowns-rise _ _ _ _ c.requires.ground)))

pub bad_frame_of-fault-requires : goal.bad_frame_of-fault-requires
bad_frame_of-fault-requires g c = (
  lit≤ tt,
  (
    lit≤ tt,
    (
      lit≤ tt,
      (
        c.requires.scale,
        (
          subst (λ (l : List (Entity g.row.S)). Rise l) (sym c.as_slice-entities.ensures) c.requires.ground.outline.rise,
          subst (λ (l : List (Act g.row.S)). RiseBy act_handle l) (sym c.as_slice.ensures) (acts-rise _ _ _ _ c.requires.ground),
        ),
      ),
    ),
  ),
)

pub system_over-requires : goal.system_over-requires
system_over-requires g c =
    let own = ids-started c.args.ground.now.model.now.lists c.args.ground.now.outline.now c.args.numbers.now c.args.group.now c.deref-2.result.now (c.deref-2.ensures.value ∙ c.in_ok-started.ensures) in
    let fixed = c.deref-5.ensures.value ∙ c.in_ok-fixed.ensures in
    let stand = fixed-stand _ _ _ _ c.requires.ground c.deref-2.result.now own (is_one_of c.deref.result.now) c.deref-5.result.now fixed in
    let differ = fixed-differ _ _ _ _ c.requires.ground c.deref-2.result.now own (is_one_of c.deref.result.now) c.deref-5.result.now fixed in
    (lit≤ tt, (lit≤ tt, (lit≤ tt, (lit≤ tt, (lit≤ tt, (c.requires.scale, (c.requires.places, (c.requires.ground, (stand, differ)))))))))

pub result_from-requires : goal.result_from-requires
result_from-requires g c =
    let unknowns = c.in_ok-unknowns.ensures in
    let own = ids-started c.args.ground.now.model.now.lists c.args.ground.now.outline.now c.args.numbers.now c.args.group.now c.deref-4.result.now (c.deref-4.ensures.value ∙ c.in_ok-started.ensures) in
    let long = point-fits _ _ _ _ c.requires.ground c.deref-4.result.now own c.deref-3.result.now c.deref-6.result.now (c.deref-3.ensures.value ∙ unknowns) (c.deref-6.ensures.value ∙ c.in_ok-point.ensures) in
    let system = ap (λ (y : GroupSystem). length y.unknowns) c.in_ok-system.ensures.value
    ∙ ap length (system-unknowns c.args.ground.now.outline.now.entities c.args.ground.now.model.now.lists.constraints c.args.numbers.now c.args.group.now c.deref-5.result.now) in
    (lit≤ tt, (lit≤ tt, (lit≤ tt, (c.requires.scale, long ∙ sym system))))

pub placed-requires : goal.placed-requires
placed-requires g c =
    let unknowns = c.in_ok-unknowns.ensures in
    (lit≤ tt, (lit≤ tt, subst (λ (us : List ParamId). RiseBy param_handle us) (sym (c.deref-7.ensures.value ∙ unknowns)) (unknowns-rise _ _ _ _ c.requires.ground)))

pub acts-requires : goal.acts-requires
acts-requires g c =
    let unknowns = c.in_ok-unknowns.ensures in
    let own = ids-started c.args.ground.now.model.now.lists c.args.ground.now.outline.now c.args.numbers.now c.args.group.now c.deref-4.result.now (c.deref-4.ensures.value ∙ c.in_ok-started.ensures) in
    let long = point-fits _ _ _ _ c.requires.ground c.deref-4.result.now own c.deref-3.result.now c.deref-6.result.now (c.deref-3.ensures.value ∙ unknowns) (c.deref-6.ensures.value ∙ c.in_ok-point.ensures) in
    let system = ap (λ (y : GroupSystem). length y.unknowns) c.in_ok-system.ensures.value
    ∙ ap length (system-unknowns c.args.ground.now.outline.now.entities c.args.ground.now.model.now.lists.constraints c.args.numbers.now c.args.group.now c.deref-5.result.now) in
    let kept = result-long c.in_ok-result.result _ c.bad_frame_of-fault.result c.deref-6.result.now _ c.in_ok-result.ensures.value in
    (lit≤ tt, (lit≤ tt, (lit≤ tt, (c.requires.scale, ap length c.as_slice-3.ensures ∙ kept ∙ long ∙ sym system))))

pub returns-clause-value : goal.returns-clause-value
returns-clause-value g c =
    let us = c.in_ok-unknowns.unknowns.items in
    let ps = c.in_ok-started.started.items in
    let r = c.in_ok-result.result in
    let unknowns = c.in_ok-unknowns.ensures in
    let fixed : c.deref-5.result.now ≡ fixed_of (is_one_of us) ps = c.deref-5.ensures.value ∙ c.in_ok-fixed.ensures
    ∙ ap (λ (l : List ParamId). fixed_of (is_one_of l) c.deref-2.result.now) c.deref.ensures.value ∙ ap (λ (l : List (ParamValue g.row.S)). fixed_of (is_one_of us) l) c.deref-2.ensures.value in
    let point : c.deref-6.result.now ≡ point_of (is_one_of us) ps = c.deref-6.ensures.value ∙ c.in_ok-point.ensures
    ∙ ap (λ (l : List ParamId). point_of (is_one_of l) c.deref-4.result.now) c.deref-3.ensures.value ∙ ap (λ (l : List (ParamValue g.row.S)). point_of (is_one_of us) l) c.deref-4.ensures.value in
    let fault : c.bad_frame_of-fault.result ≡ bad_frame_of c.args.ground.now.outline.now.entities c.args.numbers.now.acts c.args.group.now = c.bad_frame_of-fault.ensures
    ∙ ap (λ (es : List (Entity g.row.S)). bad_frame_of es c.as_slice.result.now c.args.group.now) c.as_slice-entities.ensures
    ∙ ap (λ (l : List (Act g.row.S)). bad_frame_of c.args.ground.now.outline.now.entities l c.args.group.now) c.as_slice.ensures in
    let z : GroupSystem = made_of c.in_ok-system.system in
    let result = c.in_ok-result.ensures.value
    ∙ ap (λ (o : Option FrameFault). result_by (λ x. names_at (seen_at g.row.S z x)) (unless_bad o c.deref-6.result.now (verdict_over g.row.S (length z.unknowns) (seen_at g.row.S z) c.deref-6.result.now))) fault in
    let kept = c.of-2.ensures ∙ c.in_ok-params.ensures
    ∙ ap (λ (l : List ParamId). placed (is_one_of l) c.deref-8.result.now c.as_slice-2.result.now) c.deref-7.ensures.value
    ∙ ap (λ (l : List (ParamValue g.row.S)). placed (is_one_of us) l c.as_slice-2.result.now) c.deref-8.ensures.value
    ∙ ap (λ (x : List ℤ). placed (is_one_of us) ps x) c.as_slice-2.ensures in
    left-made _ _ _ _ _ _ (c.in_ok-only.ensures ∙ ap (λ (l : List ParamId). record { group = c.args.group.now.id; params = l; result = r } ∷ []) c.of.ensures) kept c.of-3.ensures
    ∙ left-is _ _ _ _ c.requires.ground us ps c.deref-5.result.now c.deref-6.result.now z r c.in_ok-acts.acts.items unknowns c.in_ok-started.ensures fixed point c.in_ok-system.ensures.value result
    (c.in_ok-acts.ensures ∙ ap (acts_at z) c.as_slice-3.ensures)

pub returns-clause-sound : goal.returns-clause-sound
returns-clause-sound g c =
    let us = c.in_ok-unknowns.unknowns.items in
    let ps = c.in_ok-started.started.items in
    let r = c.in_ok-result.result in
    let unknowns = c.in_ok-unknowns.ensures in
    let fixed : c.deref-5.result.now ≡ fixed_of (is_one_of us) ps = c.deref-5.ensures.value ∙ c.in_ok-fixed.ensures
    ∙ ap (λ (l : List ParamId). fixed_of (is_one_of l) c.deref-2.result.now) c.deref.ensures.value ∙ ap (λ (l : List (ParamValue g.row.S)). fixed_of (is_one_of us) l) c.deref-2.ensures.value in
    let kept = c.of-2.ensures ∙ c.in_ok-params.ensures
    ∙ ap (λ (l : List ParamId). placed (is_one_of l) c.deref-8.result.now c.as_slice-2.result.now) c.deref-7.ensures.value
    ∙ ap (λ (l : List (ParamValue g.row.S)). placed (is_one_of us) l c.as_slice-2.result.now) c.deref-8.ensures.value
    ∙ ap (λ (x : List ℤ). placed (is_one_of us) ps x) c.as_slice-2.ensures in
    subst (λ (x : Left g.row.S). BoxesSound (group_works c.args.ground.now.model.now.lists c.args.ground.now.outline.now c.args.group.now) c.args.numbers.now c.args.group.now.id x)
    (sym (left-made _ _ _ _ _ _ (c.in_ok-only.ensures ∙ ap (λ (l : List ParamId). record { group = c.args.group.now.id; params = l; result = r } ∷ []) c.of.ensures) kept c.of-3.ensures))
    (sound-is c.args.ground.now.model.now.lists c.args.ground.now.outline.now c.args.numbers.now c.args.group.now c.requires.ground us ps c.deref-5.result.now (made_of c.in_ok-system.system) r c.in_ok-acts.acts.items unknowns c.in_ok-started.ensures fixed c.in_ok-system.ensures.value c.in_ok-result.ensures.sound)
