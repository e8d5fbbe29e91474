use Rattle.std.proofs.Common.{◌∙◌, List, sym, subst, lit≤}
use Rattle.std.specs.List.{All}
use Rattle.std.proofs.lemmas.List.Elements.{All-filter}
use Rattle.sk_types.specs.declared.handle.GroupId.{GroupId}
use Rattle.sk_chain.specs.Laws.{IsFound}
use Rattle.sk_solve.specs.declared.report.Listed.{Listed}
use Rattle.sk_regen.specs.Below.{BoxesOver}
use Rattle.sk_regen.specs.NewText.{is_reported, reported}
use Rattle.sk_regen.proofs.Foldings.{whole-some, whole-differ, whole-rise}
use Rattle.sk_regen.proofs.fold.into_regenerated.Goals as goal

pub over_groups-requires : goal.over_groups-requires
over_groups-requires g c =
    let Found = IsFound c.args.model.lists.groups in
    let order-is = c.deref.ensures.value ∙ c.in_ok-order.ensures in
    let there = subst (λ (order : List GroupId). All Found order) (sym order-is) (All-filter is_reported Found c.args.outline.now.order c.requires.outline.found) in
    (lit≤ tt, (lit≤ tt, (lit≤ tt, (lit≤ tt, (c.requires.scale, (c.requires.outline, there))))))

pub with_numbers-requires : goal.with_numbers-requires
with_numbers-requires g c =
    let m = c.args.model.lists in
    let o = c.args.outline.now in
    let n = c.in_ok-state.state.numbers in
    let checked = c.over_groups.ensures.checked in
    let whole = c.in_ok-state.ensures.whole in
    let some = whole-some c.requires.scale m o n checked c.requires.outline whole in
    let differ = whole-differ c.requires.scale m o n checked c.requires.outline whole in
    let rise = whole-rise c.requires.scale m o n checked c.requires.outline whole in
    (lit≤ tt, (lit≤ tt, (lit≤ tt, (c.requires.scale, (some, (differ, rise))))))

pub returns-clause-sound : goal.returns-clause-sound
returns-clause-sound g c =
    let m = c.args.model.lists in
    let o = c.args.outline.now in
    subst (λ (before : List (Listed g.row.S)). BoxesOver m o c.args.dirty.now before (reported o)) c.as_slice.ensures
    (subst (λ (order : List GroupId). BoxesOver m o c.args.dirty.now c.as_slice.result.now order) (c.deref.ensures.value ∙ c.in_ok-order.ensures) c.in_ok-state.ensures.sound)

pub returns-clause-rise : goal.returns-clause-rise
returns-clause-rise g c = whole-rise c.requires.scale c.args.model.lists c.args.outline.now c.in_ok-state.state.numbers c.over_groups.ensures.checked c.requires.outline c.in_ok-state.ensures.whole
