use Rattle.std.proofs.Common.{◌≡◌, ◌∙◌, List, map, ap, sym, subst, lit≤}
use Rattle.sk_types.specs.declared.constraint.Constraint.{Constraint}
use Rattle.sk_types.specs.declared.entity.Act.{Act}
use Rattle.sk_types.specs.declared.entity.Entity.{Entity}
use Rattle.sk_types.specs.declared.entity.Numbers.{Numbers}
use Rattle.sk_types.specs.declared.entity.ParamValue.{ParamValue}
use Rattle.sk_types.specs.declared.handle.EntityId.{EntityId}
use Rattle.sk_types.specs.Lookups.{Rise, RiseBy, act_at, act_handle, value_handle}
use Rattle.sk_system.specs.GroupSystem.{group_system, own_constraints}
use Rattle.sk_system.specs.Known.{IsKnown}
use Rattle.sk_system.specs.ShareLaws.{own-again, own-known, own-system}
use Rattle.sk_system.specs.Shares.{constraint_group}
use Rattle.sk_regen.specs.Ground.{stands_among}
use Rattle.sk_regen.specs.GroupWorks.{framed, own_normal}
use Rattle.sk_model.specs.Changes.{with_params}
use Rattle.sk_regen.proofs.Ready.{most, params-rise, params-differ, acts-rise, known, rise-same}
use Rattle.sk_regen.proofs.Restoring.{restored}
use Rattle.sk_regen.proofs.Overs.{frame-back, frame-none, stand-back, same-numbers}
use Rattle.sk_regen.proofs.systems.system_over.Goals as goal
use Rattle.sk_regen.proofs.systems.system_over.Goals.{in-Some, in-None}

pub standing-requires : goal.standing-requires
standing-requires g c = (lit≤ tt, subst (λ (ps : List (ParamValue g.row.S)). RiseBy value_handle ps) (sym c.as_slice.ensures) (params-rise _ _ _ _ c.requires.ground))

pub own_normal-requires : goal.own_normal-requires
own_normal-requires g c = (lit≤ tt, most _ _ _ _ c.requires.ground)

pub act_at-normal-requires : goal.act_at-normal-requires
act_at-normal-requires g c = (lit≤ tt, subst (λ (l : List (Act g.row.S)). RiseBy act_handle l) (sym c.as_slice-2.ensures) (acts-rise _ _ _ _ c.requires.ground))

pub put_params-requires : goal.put_params-requires
put_params-requires g c = (lit≤ tt, (params-rise _ _ _ _ c.requires.ground, c.requires.stand))

pub put_frame-requires : goal.put_frame-requires
put_frame-requires g c = (lit≤ tt, (lit≤ tt, (lit≤ tt, (c.requires.scale, (most _ _ _ _ c.requires.ground, (subst (λ (l : List (Entity g.row.S)). Rise l) (sym c.as_slice-3.ensures) c.requires.ground.outline.rise, acts-rise _ _ _ _ c.requires.ground))))))

pub new-requires : goal.new-requires
new-requires g c =
    let m = c.args.ground.now.model.now.lists in
    let es = c.args.ground.now.outline.now.entities in
    let group = c.args.group.now in
    let now : Numbers g.row.S = record { params = c.put_params.new.params; acts = c.put_frame.new.acts } in
    let ready = known _ _ _ _ c.requires.ground now c.put_params.ensures.handles c.put_frame.ensures.handles in
    let constraints : c.share-share.result.constraints.now ≡ own_constraints group m.constraints = c.share-share.ensures.constraints ∙ c.requires.places.constraints group.id.0 in
    let own : c.share-share.result.constraints.now ≡ own_constraints group c.share-share.result.constraints.now = constraints ∙ sym (ap (own_constraints group) constraints ∙ own-again constraint_group group.id.0 m.constraints) in
    let fit : IsKnown group es c.share-share.result.constraints.now now = subst (λ (cs : List (Constraint g.row.S)). IsKnown group es cs now) (sym constraints) (own-known group es m.constraints now ready) in
    (lit≤ tt, (lit≤ tt, (lit≤ tt, (lit≤ tt, (lit≤ tt, (c.requires.scale, (c.share-share.ensures.entities ∙ c.requires.places.entities group.id.0, (own, fit))))))))

pub put_params-requires-2 : goal.put_params-requires-2
put_params-requires-2 g c = (
  lit≤ tt,
  (
    rise-same value_handle c.args.numbers.now.params c.put_params.new.params c.put_params.ensures.handles (params-rise _ _ _ _ c.requires.ground),
    stand-back (map value_handle c.args.numbers.now.params) (map value_handle c.put_params.new.params) c.as_slice.result.now c.args.fixed.now c.deref.result.now c.put_params.ensures.handles (c.deref.ensures.value ∙ c.in_ok-before.ensures) c.requires.stand,
  ),
)

pub put_act-requires : goal.put_act-requires
put_act-requires g c = (lit≤ tt, rise-same act_handle c.args.numbers.now.acts c.put_frame.new.acts c.put_frame.ensures.handles (acts-rise _ _ _ _ c.requires.ground))

pub returns-clause-numbers : goal.returns-clause-numbers
returns-clause-numbers g c =
    let n = c.args.numbers.now in
    let params : c.put_params-2.new.params ≡ n.params =
    restored n.params c.args.fixed.now c.put_params.new.params c.put_params-2.new.params c.requires.stand c.requires.differ (params-differ _ _ _ _ c.requires.ground)
    c.put_params.ensures.value c.put_params.ensures.handles
    (c.put_params-2.ensures.value ∙ ap (λ (ps : List (ParamValue g.row.S)). with_params ps c.put_params.new.params)
    (c.deref.ensures.value ∙ c.in_ok-before.ensures ∙ ap (λ (ps : List (ParamValue g.row.S)). map (stands_among ps) c.args.fixed.now) c.as_slice.ensures))
    c.put_params-2.ensures.handles in
    let found : c.act_at-normal.result ≡ act_at (own_normal c.args.group.now).0 n.acts =
    c.act_at-normal.ensures ∙ ap (λ (e : EntityId). act_at e.0 c.as_slice-2.result.now) c.own_normal.ensures ∙ ap (act_at (own_normal c.args.group.now).0) c.as_slice-2.ensures in
    let along : c.put_frame.new.acts ≡ framed c.args.ground.now.outline.now.entities n.acts c.args.group.now =
    c.put_frame.ensures.value ∙ ap (λ (es : List (Entity g.row.S)). framed es n.acts c.args.group.now) c.as_slice-3.ensures in
    elim c.match-normal.branch [
      | in-Some w ↦ w.numbers-is ∙ same-numbers _ _ _ _ params (frame-back c.args.ground.now.outline.now.entities n.acts c.args.group.now c.put_frame.new.acts w.put_act.new.acts w.in-Some.normal (sym found ∙ w.in-Some.is) along w.put_act.ensures.value)
      | in-None w ↦ w.numbers-is ∙ same-numbers _ _ _ _ params (frame-none c.args.ground.now.outline.now.entities n.acts c.args.group.now c.put_frame.new.acts (sym found ∙ w.in-None.is) along)
    ]

pub returns-clause-value : goal.returns-clause-value
returns-clause-value g c =
    let n = c.args.numbers.now in
    let m = c.args.ground.now.model.now.lists in
    let es = c.args.ground.now.outline.now.entities in
    let group = c.args.group.now in
    let now : Numbers g.row.S = record { params = c.put_params.new.params; acts = c.put_frame.new.acts } in
    let constraints : c.share-share.result.constraints.now ≡ own_constraints group m.constraints = c.share-share.ensures.constraints ∙ c.requires.places.constraints group.id.0 in
    let along : c.put_frame.new.acts ≡ framed es n.acts group = c.put_frame.ensures.value ∙ ap (λ (l : List (Entity g.row.S)). framed l n.acts group) c.as_slice-3.ensures in
    c.in_ok-system.ensures ∙ ap (λ (cs : List (Constraint g.row.S)). group_system group es cs now) constraints ∙ own-system group es m.constraints now
    ∙ ap (λ (k : Numbers g.row.S). group_system group es m.constraints k) (same-numbers c.put_params.new.params (with_params c.args.fixed.now n.params) c.put_frame.new.acts (framed es n.acts group) c.put_params.ensures.value along)
