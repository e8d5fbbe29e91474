use Rattle.std.proofs.Common.{get_or, refl, sym, ◌∙◌, true, false}
use Rattle.std.specs.Vec.Iter.{into_iter_items}
use Rattle.sk_model.proofs.ListsSteps.{tested, set_grown, kept, lists_next, handles_next, exist_next, exist_first}
use Rattle.sk_model.proofs.changes.set_lists.Goals as goal

pub loop-list-preserved-then-grew : goal.loop-list-preserved-then-grew
loop-list-preserved-then-grew g c =
    let steps = c.in-Some.ensures.steps.0 in
    let old = into_iter_items c.loop-list.list-iterator in
    let rest = into_iter_items c.next.new.self in
    let seen = exist_first c.args.handles.now.keys old rest c.in-Some.list steps c.loop-list.invariant.exist in
    let at = sym c.get_index_of.ensures.index ∙ c.unwrap-place.ensures in
    let grows = tested c.loop-list.groups c.in-Some.list c.unwrap-place.result c.index-groups-place.result (get_or c.loop-list.groups c.unwrap-place.result c.index-groups-place.result) c.args.handles.now.keys c.loop-list.invariant.handles seen at refl true (sym c.grew.ensures ∙ c.if-grew.true) in
    let is = set_grown c.loop-list.groups c.in-Some.list c.unwrap-place.result c.index-groups-place-then-grew.result c.index-groups-place-then-grew.result c.args.handles.now.keys c.loop-list.invariant.handles seen at c.index-groups-place-then-grew.is _ grows refl in
    record {
      lists = lists_next c.loop-list.groups c.args.groups.now _ c.args.lists.items old rest c.in-Some.list c.args.handles.now.keys steps is c.loop-list.invariant.lists;
      handles = handles_next c.loop-list.groups c.args.groups.now _ c.args.lists.items old rest c.in-Some.list c.args.handles.now.keys steps is c.loop-list.invariant.handles;
      exist = exist_next c.args.handles.now.keys old rest c.in-Some.list steps c.loop-list.invariant.exist;
    }

pub loop-list-preserved : goal.loop-list-preserved
loop-list-preserved g c =
    let steps = c.in-Some.ensures.steps.0 in
    let old = into_iter_items c.loop-list.list-iterator in
    let rest = into_iter_items c.next.new.self in
    let seen = exist_first c.args.handles.now.keys old rest c.in-Some.list steps c.loop-list.invariant.exist in
    let at = sym c.get_index_of.ensures.index ∙ c.unwrap-place.ensures in
    let stays = tested c.loop-list.groups c.in-Some.list c.unwrap-place.result c.index-groups-place.result (get_or c.loop-list.groups c.unwrap-place.result c.index-groups-place.result) c.args.handles.now.keys c.loop-list.invariant.handles seen at refl false (sym c.grew.ensures ∙ c.if-grew.false) in
    let is = kept c.loop-list.groups c.in-Some.list stays in
    record {
      lists = lists_next c.loop-list.groups c.args.groups.now c.loop-list.groups c.args.lists.items old rest c.in-Some.list c.args.handles.now.keys steps is c.loop-list.invariant.lists;
      handles = c.loop-list.invariant.handles;
      exist = exist_next c.args.handles.now.keys old rest c.in-Some.list steps c.loop-list.invariant.exist;
    }
