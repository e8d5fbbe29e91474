use Rattle.std.proofs.Common.{◌≡◌, List, map, ap, sym, ◌∙◌, arith, subst}
use Rattle.std.specs.List.{All}
use Rattle.std.proofs.lemmas.List.Elements.{All-push}
use Rattle.sk_records.specs.declared.change_list.Edit.{Edit}
use Rattle.sk_records.specs.declared.kinds.Kind.TheVariants.{Group}
use Rattle.sk_records.specs.ChangeLists.{Change, SetMap}
use Rattle.sk_records.specs.Given.{given_list}
use Rattle.sk_records.specs.Holding.ChangesHeld.{change_of, EditFits}
use Rattle.sk_records.specs.Holding.Grown.{IsGrown}
use Rattle.sk_records.proofs.RoomMade.{on_err_any}
use Rattle.sk_records.proofs.ChangesMade.{list_grows, all_fit, list_more, map_edit, map_edit_is, map_edit_fits}
use Rattle.sk_records.proofs.change_list.ChangeList.set_map.Goals as goal

pub returns-in_err-push-clause-err : goal.returns-in_err-push-clause-err
returns-in_err-push-clause-err c =
    let k = c.self.inside.kind in
    let old = c.self.inside.bytes.items in
    let new = c.extend_from_slice.new.self.items in
    let es = c.self.inside.edits.items in
    let g : IsGrown old new = record { more = c.args.lines.now; is = c.in_ok-extend_from_slice.ensures.items } in
    on_err_any c.from_residual-in_err-push.result
    (ap (λ (l : List Edit). record { kind = k; list = map (change_of new) l }) c.in_err-push.ensures.items
    ∙ ap (λ (cs : List Change). record { kind = k; list = cs }) (list_grows k old new es g c.self.invariant)
    ∙ c.self.view_is)

pub invariant_of-self-2 : goal.invariant_of-self-2
invariant_of-self-2 c =
    let k = c.self.inside.kind in
    let old = c.self.inside.bytes.items in
    let new = c.extend_from_slice.new.self.items in
    let es = c.self.inside.edits.items in
    let g : IsGrown old new = record { more = c.args.lines.now; is = c.in_ok-extend_from_slice.ensures.items } in
    let e = map_edit k old new c.args.lines.now c.args.place c.len-start.result c.len-end.result c.in_ok-extend_from_slice.ensures.items (omega arith) (omega arith) in
    let group : k ≡ Group = rw (← c.self.view_is) at c.requires.group in
    let fits = map_edit_fits k old new c.args.lines.now c.args.place c.len-start.result c.len-end.result c.in_ok-extend_from_slice.ensures.items (omega arith) (omega arith) group c.requires.list c.requires.ended in
    subst (All (EditFits k new)) (sym c.in_ok-push.ensures.items) (All-push (EditFits k new) es e (all_fit k old new es g c.self.invariant) fits)

pub returns-clause-ok : goal.returns-clause-ok
returns-clause-ok c =
    let k = c.self.inside.kind in
    let old = c.self.inside.bytes.items in
    let new = c.extend_from_slice.new.self.items in
    let es = c.self.inside.edits.items in
    let g : IsGrown old new = record { more = c.args.lines.now; is = c.in_ok-extend_from_slice.ensures.items } in
    let e = map_edit k old new c.args.lines.now c.args.place c.len-start.result c.len-end.result c.in_ok-extend_from_slice.ensures.items (omega arith) (omega arith) in
    let is = map_edit_is k old new c.args.lines.now c.args.place c.len-start.result c.len-end.result c.in_ok-extend_from_slice.ensures.items (omega arith) (omega arith) in
    rw (← c.self.view_is)
    (ap (λ (l : List Edit). record { kind = k; list = map (change_of new) l }) c.in_ok-push.ensures.items
    ∙ ap (λ (cs : List Change). record { kind = k; list = cs }) (list_more k old new es e (SetMap c.args.place (given_list c.args.lines.now)) g c.self.invariant is))
