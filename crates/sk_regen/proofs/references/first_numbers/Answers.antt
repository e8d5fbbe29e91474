use Rattle.std.proofs.Common.{◌≡◌, ◌∙◌, List, map, true, Some, ap, sym, subst, lit≤}
use Rattle.std.specs.Option.{option_copied}
use Rattle.std.specs.List.{All}
use Rattle.sk_types.specs.declared.entity.Entity.{Entity}
use Rattle.sk_types.specs.declared.entity.Numbers.{Numbers}
use Rattle.sk_types.specs.declared.entity.ParamValue.{ParamValue}
use Rattle.sk_types.specs.declared.group.Group.{Group}
use Rattle.sk_types.specs.Lookups.{RiseBy, value_handle, act_handle}
use Rattle.sk_types.specs.Params.{OwnFit}
use Rattle.sk_model.specs.Chain.{seen_in}
use Rattle.sk_chain.specs.Lookups.{group_at}
use Rattle.sk_regen.specs.Ground.{IsGround}
use Rattle.sk_regen.specs.GroupWorks.{blank, params_of}
use Rattle.sk_chain.proofs.Standing.{found_own}
use Rattle.sk_regen.proofs.Grounds.{blank-whole, ids-reference}
use Rattle.sk_regen.proofs.Overs.{own-values-stand}
use Rattle.sk_regen.proofs.Placed.{id_of}
use Rattle.sk_regen.proofs.Ready.{most, params-rise, acts-rise}
use Rattle.sk_regen.proofs.references.first_numbers.Goals as goal

pub unknowns_in-requires : goal.unknowns_in-requires
unknowns_in-requires g c =
    let m = c.args.ground.now.model.now.lists in
    let o = c.args.ground.now.outline.now in
    let first = c.in-Some.group.now in
    let there : group_at first.id.0 m.groups ≡ Some first = found_own 1 m.groups first (sym (ap (group_at 1) c.groups-2.ensures.groups) ∙ sym c.group_at.ensures ∙ ap option_copied c.in-Some.is) in
    let n = c.in_ok-numbers.numbers in
    let is : n ≡ blank m.groups o.entities = c.in_ok-numbers.ensures ∙ ap (λ (gs : List (Group g.row.S)). blank gs c.as_slice-entities.result.now) c.groups.ensures.groups ∙ ap (λ (es : List (Entity g.row.S)). blank m.groups es) c.as_slice-entities.ensures in
    let ground : IsGround m o n first = record { checked = c.requires.checked; outline = c.requires.outline; there = there; whole = blank-whole m o n is } in
    (lit≤ tt, (lit≤ tt, (c.requires.places, (c.requires.outline.own_fit, most m o n first ground))))

pub references-requires : goal.references-requires
references-requires g c =
    let m = c.args.ground.now.model.now.lists in
    let o = c.args.ground.now.outline.now in
    let first = c.in-Some.group.now in
    let there : group_at first.id.0 m.groups ≡ Some first = found_own 1 m.groups first (sym (ap (group_at 1) c.groups-2.ensures.groups) ∙ sym c.group_at.ensures ∙ ap option_copied c.in-Some.is) in
    let n = c.in_ok-numbers.numbers in
    let is : n ≡ blank m.groups o.entities = c.in_ok-numbers.ensures ∙ ap (λ (gs : List (Group g.row.S)). blank gs c.as_slice-entities.result.now) c.groups.ensures.groups ∙ ap (λ (es : List (Entity g.row.S)). blank m.groups es) c.as_slice-entities.ensures in
    let ground : IsGround m o n first = record { checked = c.requires.checked; outline = c.requires.outline; there = there; whole = blank-whole m o n is } in
    (lit≤ tt, (lit≤ tt, (lit≤ tt, (c.requires.scale, (subst (λ (es : List (Entity g.row.S)). OwnFit es) (sym c.as_slice-entities.ensures) c.requires.outline.own_fit, most m o n first ground)))))

pub acts_over-requires : goal.acts_over-requires
acts_over-requires g c =
    let m = c.args.ground.now.model.now.lists in
    let o = c.args.ground.now.outline.now in
    let first = c.in-Some.group.now in
    let there : group_at first.id.0 m.groups ≡ Some first = found_own 1 m.groups first (sym (ap (group_at 1) c.groups-2.ensures.groups) ∙ sym c.group_at.ensures ∙ ap option_copied c.in-Some.is) in
    let n = c.in_ok-numbers.numbers in
    let is : n ≡ blank m.groups o.entities = c.in_ok-numbers.ensures ∙ ap (λ (gs : List (Group g.row.S)). blank gs c.as_slice-entities.result.now) c.groups.ensures.groups ∙ ap (λ (es : List (Entity g.row.S)). blank m.groups es) c.as_slice-entities.ensures in
    let ground : IsGround m o n first = record { checked = c.requires.checked; outline = c.requires.outline; there = there; whole = blank-whole m o n is } in
    let unknowns = c.deref.ensures.value ∙ c.in_ok-unknowns.ensures in
    let own : map id_of c.deref-2.result.now ≡ params_of o.entities first = ap (map id_of) (c.deref-2.ensures.value ∙ c.in_ok-params.ensures) ∙ ids-reference g.row.S (params_of c.as_slice-entities.result.now first) ∙ ap (λ (es : List (Entity g.row.S)). params_of es first) c.as_slice-entities.ensures in
    (lit≤ tt, (lit≤ tt, (lit≤ tt, (lit≤ tt, (lit≤ tt, (c.requires.scale, (c.requires.places, (ground, (unknowns, own)))))))))

pub put_params-requires : goal.put_params-requires
put_params-requires g c =
    let m = c.args.ground.now.model.now.lists in
    let o = c.args.ground.now.outline.now in
    let first = c.in-Some.group.now in
    let there : group_at first.id.0 m.groups ≡ Some first = found_own 1 m.groups first (sym (ap (group_at 1) c.groups-2.ensures.groups) ∙ sym c.group_at.ensures ∙ ap option_copied c.in-Some.is) in
    let n = c.in_ok-numbers.numbers in
    let is : n ≡ blank m.groups o.entities = c.in_ok-numbers.ensures ∙ ap (λ (gs : List (Group g.row.S)). blank gs c.as_slice-entities.result.now) c.groups.ensures.groups ∙ ap (λ (es : List (Entity g.row.S)). blank m.groups es) c.as_slice-entities.ensures in
    let ground : IsGround m o n first = record { checked = c.requires.checked; outline = c.requires.outline; there = there; whole = blank-whole m o n is } in
    let own : map id_of c.deref-3.result.now ≡ params_of o.entities first = ap (map id_of) (c.deref-3.ensures.value ∙ c.in_ok-params.ensures) ∙ ids-reference g.row.S (params_of c.as_slice-entities.result.now first) ∙ ap (λ (es : List (Entity g.row.S)). params_of es first) c.as_slice-entities.ensures in
    let same = sym c.in_ok-acts.ensures.numbers in (
      lit≤ tt,
      (
        subst (λ (k : Numbers g.row.S). RiseBy value_handle k.params) same (params-rise m o n first ground),
        subst (λ (k : Numbers g.row.S). All (λ (p : ParamValue g.row.S). seen_in p.id.0 (map value_handle k.params) ≡ true) c.deref-3.result.now) same (own-values-stand m o n first ground c.deref-3.result.now own),
      ),
    )

pub put_acts-requires : goal.put_acts-requires
put_acts-requires g c =
    let m = c.args.ground.now.model.now.lists in
    let o = c.args.ground.now.outline.now in
    let first = c.in-Some.group.now in
    let there : group_at first.id.0 m.groups ≡ Some first = found_own 1 m.groups first (sym (ap (group_at 1) c.groups-2.ensures.groups) ∙ sym c.group_at.ensures ∙ ap option_copied c.in-Some.is) in
    let n = c.in_ok-numbers.numbers in
    let is : n ≡ blank m.groups o.entities = c.in_ok-numbers.ensures ∙ ap (λ (gs : List (Group g.row.S)). blank gs c.as_slice-entities.result.now) c.groups.ensures.groups ∙ ap (λ (es : List (Entity g.row.S)). blank m.groups es) c.as_slice-entities.ensures in
    let ground : IsGround m o n first = record { checked = c.requires.checked; outline = c.requires.outline; there = there; whole = blank-whole m o n is } in
    (lit≤ tt, subst (λ (k : Numbers g.row.S). RiseBy act_handle k.acts) (sym c.in_ok-acts.ensures.numbers) (acts-rise m o n first ground))
