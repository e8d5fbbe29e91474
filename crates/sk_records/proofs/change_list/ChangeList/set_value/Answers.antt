use Rattle.std.proofs.Common.{List, map, ap, sym, ◌∙◌, arith, subst}
use Rattle.std.specs.List.{All}
use Rattle.std.proofs.lemmas.List.Elements.{All-push}
use Rattle.sk_records.specs.declared.change_list.Edit.{Edit}
use Rattle.sk_records.specs.ChangeLists.{Change, SetValue}
use Rattle.sk_records.specs.Holding.ChangesHeld.{change_of, EditFits}
use Rattle.sk_records.specs.Given.{IsKey}
use Rattle.sk_records.specs.Holding.Grown.{IsGrown}
use Rattle.sk_records.proofs.RoomMade.{on_err_any}
use Rattle.sk_records.proofs.Growth.{grown_then}
use Rattle.sk_records.proofs.ChangesMade.{list_grows, all_fit, list_more, value_edit, value_edit_is, value_edit_fits}
use Rattle.sk_records.proofs.change_list.ChangeList.set_value.Goals as goal

pub invariant_of-self-in_err-extend_from_slice-2 : goal.invariant_of-self-in_err-extend_from_slice-2
invariant_of-self-in_err-extend_from_slice-2 c =
    let k = c.self.inside.kind in
    let old = c.self.inside.bytes.items in
    let new = c.extend_from_slice-2.new.self.items in
    let es = c.self.inside.edits.items in
    let g : IsGrown old new = record { more = c.args.key.now; is = c.in_err-extend_from_slice-2.ensures.items ∙ c.in_ok-extend_from_slice.ensures.items } in
    all_fit k old new es g c.self.invariant

pub returns-in_err-extend_from_slice-2-clause-err : goal.returns-in_err-extend_from_slice-2-clause-err
returns-in_err-extend_from_slice-2-clause-err c =
    let k = c.self.inside.kind in
    let old = c.self.inside.bytes.items in
    let new = c.extend_from_slice-2.new.self.items in
    let es = c.self.inside.edits.items in
    let g : IsGrown old new = record { more = c.args.key.now; is = c.in_err-extend_from_slice-2.ensures.items ∙ c.in_ok-extend_from_slice.ensures.items } in
    on_err_any c.from_residual-in_err-extend_from_slice-2.result (ap (λ (cs : List Change). record { kind = k; list = cs }) (list_grows k old new es g c.self.invariant) ∙ c.self.view_is)

pub returns-in_err-push-clause-err : goal.returns-in_err-push-clause-err
returns-in_err-push-clause-err c =
    let k = c.self.inside.kind in
    let old = c.self.inside.bytes.items in
    let mid = c.extend_from_slice.new.self.items in
    let new = c.extend_from_slice-2.new.self.items in
    let es = c.self.inside.edits.items in
    let g : IsGrown old new = grown_then old mid new (record { more = c.args.key.now; is = c.in_ok-extend_from_slice.ensures.items }) (record { more = c.args.value.now; is = c.in_ok-extend_from_slice-2.ensures.items }) in
    on_err_any c.from_residual-in_err-push.result
    (ap (λ (l : List Edit). record { kind = k; list = map (change_of new) l }) c.in_err-push.ensures.items
    ∙ ap (λ (cs : List Change). record { kind = k; list = cs }) (list_grows k old new es g c.self.invariant)
    ∙ c.self.view_is)

pub invariant_of-self-2 : goal.invariant_of-self-2
invariant_of-self-2 c =
    let k = c.self.inside.kind in
    let old = c.self.inside.bytes.items in
    let mid = c.extend_from_slice.new.self.items in
    let new = c.extend_from_slice-2.new.self.items in
    let es = c.self.inside.edits.items in
    let key = c.args.key.now in
    let value = c.args.value.now in
    let g : IsGrown old new = grown_then old mid new (record { more = key; is = c.in_ok-extend_from_slice.ensures.items }) (record { more = value; is = c.in_ok-extend_from_slice-2.ensures.items }) in
    let e = value_edit k old mid new key value c.args.place c.len-start.result c.len-middle.result c.len-end.result c.in_ok-extend_from_slice.ensures.items c.in_ok-extend_from_slice-2.ensures.items (omega arith) (omega arith) (omega arith) in
    let is_key : IsKey k key = rw (← c.self.view_is) at c.requires.key in
    let fits = value_edit_fits k old mid new key value c.args.place c.len-start.result c.len-middle.result c.len-end.result c.in_ok-extend_from_slice.ensures.items c.in_ok-extend_from_slice-2.ensures.items (omega arith) (omega arith) (omega arith) is_key c.requires.value in
    subst (All (EditFits k new)) (sym c.in_ok-push.ensures.items) (All-push (EditFits k new) es e (all_fit k old new es g c.self.invariant) fits)

pub returns-clause-ok : goal.returns-clause-ok
returns-clause-ok c =
    let k = c.self.inside.kind in
    let old = c.self.inside.bytes.items in
    let mid = c.extend_from_slice.new.self.items in
    let new = c.extend_from_slice-2.new.self.items in
    let es = c.self.inside.edits.items in
    let key = c.args.key.now in
    let value = c.args.value.now in
    let g : IsGrown old new = grown_then old mid new (record { more = key; is = c.in_ok-extend_from_slice.ensures.items }) (record { more = value; is = c.in_ok-extend_from_slice-2.ensures.items }) in
    let e = value_edit k old mid new key value c.args.place c.len-start.result c.len-middle.result c.len-end.result c.in_ok-extend_from_slice.ensures.items c.in_ok-extend_from_slice-2.ensures.items (omega arith) (omega arith) (omega arith) in
    let is = value_edit_is k old mid new key value c.args.place c.len-start.result c.len-middle.result c.len-end.result c.in_ok-extend_from_slice.ensures.items c.in_ok-extend_from_slice-2.ensures.items (omega arith) (omega arith) (omega arith) in
    rw (← c.self.view_is)
    (ap (λ (l : List Edit). record { kind = k; list = map (change_of new) l }) c.in_ok-push.ensures.items
    ∙ ap (λ (cs : List Change). record { kind = k; list = cs }) (list_more k old new es e (SetValue c.args.place key value) g c.self.invariant is))
