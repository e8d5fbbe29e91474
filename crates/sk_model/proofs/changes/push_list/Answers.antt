use Rattle.std.proofs.Common.{sym, ◌∙◌, true, false}
use Rattle.sk_model.proofs.Outcomes.{on_ok, always}
use Rattle.sk_model.proofs.ListsSteps.{tested, changed, unchanged, none_sourced, one_sourced}
use Rattle.sk_model.proofs.changes.push_list.Goals as goal

pub returns-then-not-grew-clause-changes : goal.returns-then-not-grew-clause-changes
returns-then-not-grew-clause-changes g c =
    unchanged c.args.groups.now c.args.list.now c.args.changes.now
    (tested c.args.groups.now c.args.list.now c.unwrap-place.result c.index-groups-place.result c.index-groups-place.result c.args.handles.now.keys c.requires.handles c.requires.exists (sym c.get_index_of.ensures.index ∙ c.unwrap-place.ensures) c.index-groups-place.is false (sym c.grew.ensures ∙ c.if-not-grew.true))
    c.requires.kind

pub returns-then-not-grew-clause-sources : goal.returns-then-not-grew-clause-sources
returns-then-not-grew-clause-sources g c =
    none_sourced c.args.groups.now c.args.list.now
    (tested c.args.groups.now c.args.list.now c.unwrap-place.result c.index-groups-place.result c.index-groups-place.result c.args.handles.now.keys c.requires.handles c.requires.exists (sym c.get_index_of.ensures.index ∙ c.unwrap-place.ensures) c.index-groups-place.is false (sym c.grew.ensures ∙ c.if-not-grew.true))

pub returns-clause-changes : goal.returns-clause-changes
returns-clause-changes g c =
    on_ok c.set_map.result
    (changed c.args.groups.now c.args.list.now c.unwrap-place.result c.index-groups-place.result c.index-groups-place.result c.args.handles.now.keys c.requires.handles c.requires.exists (sym c.get_index_of.ensures.index ∙ c.unwrap-place.ensures) c.index-groups-place.is
    c.deref.result.now c.args.changes.now c.set_map.new.self (rw c.as_slice.ensures at (rw (← c.deref.ensures.value) at c.in_ok-lines.ensures))
    (tested c.args.groups.now c.args.list.now c.unwrap-place.result c.index-groups-place.result c.index-groups-place.result c.args.handles.now.keys c.requires.handles c.requires.exists (sym c.get_index_of.ensures.index ∙ c.unwrap-place.ensures) c.index-groups-place.is true (sym c.grew.ensures ∙ c.if-not-grew.false))
    c.requires.kind)
    c.set_map.ensures.ok

pub returns-clause-sources : goal.returns-clause-sources
returns-clause-sources g c =
    always c.set_map.result
    (one_sourced c.args.groups.now c.args.list.now c.in_ok-lines.lines.items
    (tested c.args.groups.now c.args.list.now c.unwrap-place.result c.index-groups-place.result c.index-groups-place.result c.args.handles.now.keys c.requires.handles c.requires.exists (sym c.get_index_of.ensures.index ∙ c.unwrap-place.ensures) c.index-groups-place.is true (sym c.grew.ensures ∙ c.if-not-grew.false))
    (rw c.as_slice.ensures at c.in_ok-lines.ensures))
