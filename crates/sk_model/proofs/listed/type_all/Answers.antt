use Rattle.std.proofs.Common.{◌≡◌, refl, ap, ◌∙◌, length, arith}
use Rattle.std.proofs.lemmas.Result.{err_from_is_err_and}
use Rattle.sk_records.specs.Blocks.{records}
use Rattle.sk_model.specs.Listings.{listed_of}
use Rattle.sk_model.proofs.Steps.{keys_grown, typed_step, fault_answered, rest_done}
use Rattle.sk_model.proofs.KeyLines.{room_kept}
use Rattle.sk_model.proofs.listed.type_all.Goals as goal

pub returns-in_err-item-clause-value : goal.returns-in_err-item-clause-value
returns-in_err-item-clause-value g c =
    let p = err_from_is_err_and c.from_residual-in_err-item.result c.from_residual-in_err-item.ensures.1 in
    let same : p.0 ≡ c.in_err-item.field-0.0 = cc (p.2) in
    fault_answered g.T.FromFields.handle g.T.FromFields.typed c.loop-place.items.items c.in_err-item.field-0.0 c.loop-place.handles.keys c.loop-place.place (records g.T.FromFields.kind c.args.book.now) _ (listed_of c.from_residual-in_err-item.result) _
    (rw (c.of-fields.ensures, c.kind-kind.ensures) at c.in_err-item.ensures.value)
    c.loop-place.invariant.handles
    (rw (c.count-place-end.ensures, c.kind-kind.ensures) at c.loop-place-test.true)
    c.loop-place.invariant.rest
    (rw (p.1, same) refl)

pub loop-place-preserved : goal.loop-place-preserved
loop-place-preserved g c = record {
  room = room_kept c.loop-place.found.len (length c.in_ok-table.table.items) c.find_lines.new.found _ c.loop-place.found.items (c.find_lines.ensures.room ∙ ap length c.deref.ensures.value) c.loop-place.invariant.room (omega arith);
  handles = keys_grown g.T.FromFields.handle _ _ _ _ _ _ (rw c.handle.ensures at c.in_ok-insert.ensures.keys) c.in_ok-item.ensures.new c.loop-place.invariant.handles c.in_ok-push.ensures.items;
  rest = typed_step g.T.FromFields.handle g.T.FromFields.typed _ _ _ _ _ _ _ _ (rw (c.of-fields.ensures, c.kind-kind.ensures) at c.in_ok-item.ensures.value) c.loop-place.invariant.handles (rw (c.count-place-end.ensures, c.kind-kind.ensures) at c.loop-place-test.true) c.in_ok-push.ensures.items c.loop-place.invariant.rest;
}

pub returns-clause-value : goal.returns-clause-value
returns-clause-value g c =
    rest_done g.T.FromFields.handle g.T.FromFields.typed c.loop-place.items.items c.loop-place.place (records g.T.FromFields.kind c.args.book.now) _
    (rw (c.count-place-end.ensures, c.kind-kind.ensures) at c.loop-place-test.false)
    c.loop-place.invariant.rest
