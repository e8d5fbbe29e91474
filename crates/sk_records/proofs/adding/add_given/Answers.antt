use Rattle.std.proofs.Common.{refl, ◌∙◌}
use Rattle.std.proofs.lemmas.Result.{on_ok_weaker, on_err_weaker}
use Rattle.sk_records.proofs.Growth.{grown_then, items_grow, item_same}
use Rattle.sk_records.proofs.RoomMade.{on_err_any}
use Rattle.sk_records.proofs.RecordGoes.{kept, kept_ready, kept_put, added_put, new_record}
use Rattle.sk_records.proofs.adding.add_given.Goals as goal

pub returns-in_err-new-clause-err : goal.returns-in_err-new-clause-err
returns-in_err-new-clause-err c = on_err_any c.from_residual.result (kept c.args.text.now.items c.push_record.new.text.items c.args.header.now c.args.items.now.items c.args.places.now.items c.args.places.now.items c.push_record.ensures.grown c.requires.first c.requires.held refl)

pub returns-in_err-tail-clause-err : goal.returns-in_err-tail-clause-err
returns-in_err-tail-clause-err c =
    let g = grown_then c.args.text.now.items c.push_record.new.text.items c.push_feed.new.text.items c.push_record.ensures.grown c.push_feed.ensures.grown in
    on_err_any c.from_residual-in_err-tail.result (kept c.args.text.now.items c.push_feed.new.text.items c.args.header.now c.args.items.now.items c.args.places.now.items c.args.places.now.items g c.requires.first c.requires.held refl)

pub make_ready-requires-clause-within : goal.make_ready-requires-clause-within
make_ready-requires-clause-within c =
    let g = grown_then c.args.text.now.items c.push_record.new.text.items c.push_feed.new.text.items c.push_record.ensures.grown c.push_feed.ensures.grown in
    rw c.deref.ensures.value (items_grow c.args.text.now.items c.push_feed.new.text.items c.args.items.now.items g c.requires.held.within)

pub returns-in_err-ready-clause-err : goal.returns-in_err-ready-clause-err
returns-in_err-ready-clause-err c =
    let g = grown_then c.args.text.now.items c.push_record.new.text.items c.push_feed.new.text.items c.push_record.ensures.grown c.push_feed.ensures.grown in
    let same = rw c.deref.ensures.value at c.make_ready.ensures.blocks in
    let within = rw c.deref.ensures.value at c.make_ready.ensures.within in
    on_err_any c.from_residual-in_err-ready.result (kept_ready c.args.text.now.items c.push_feed.new.text.items c.args.header.now c.args.items.now.items c.make_ready.new.items.items c.args.places.now.items g c.requires.first c.requires.held same c.make_ready.new.places.items (record { within = within; index = c.make_ready.ensures.index }))

pub put_record-requires-clause-new : goal.put_record-requires-clause-new
put_record-requires-clause-new c = new_record c.push_record.new.text.items c.push_feed.new.text.items c.args.kind c.args.lines.now c.in_ok-new.new c.in_ok-tail.tail c.push_feed.ensures.grown c.in_ok-new.ensures.item c.in_ok-tail.ensures.feed c.in_ok-tail.ensures.within

pub returns-clause-ok : goal.returns-clause-ok
returns-clause-ok c =
    let old = c.args.text.now.items in
    let mid = c.push_feed.new.text.items in
    let g = grown_then old c.push_record.new.text.items mid c.push_record.ensures.grown c.push_feed.ensures.grown in
    let same = rw c.deref.ensures.value at c.make_ready.ensures.blocks in
    let one = c.in_ok-new.ensures.item in
    let is_new = item_same c.push_record.new.text.items mid c.in_ok-new.new c.push_feed.ensures.grown one.within ∙ one.is in
    on_ok_weaker c.put_record.result
    (λ is. added_put old mid c.args.header.now c.args.items.now.items c.make_ready.new.items.items c.args.places.now.items g c.requires.first c.requires.held same c.put_record.new.text.items c.args.kind c.args.lines.now c.in_ok-new.new c.put_record.new.header c.put_record.new.items.items c.put_record.new.places.items one.given is_new one.same is)
    c.put_record.ensures.ok

pub returns-clause-err : goal.returns-clause-err
returns-clause-err c =
    let old = c.args.text.now.items in
    let mid = c.push_feed.new.text.items in
    let g = grown_then old c.push_record.new.text.items mid c.push_record.ensures.grown c.push_feed.ensures.grown in
    let same = rw c.deref.ensures.value at c.make_ready.ensures.blocks in
    on_err_weaker c.put_record.result
    (λ is. kept_put old mid c.args.header.now c.args.items.now.items c.make_ready.new.items.items c.args.places.now.items g c.requires.first c.requires.held same c.put_record.new.text.items c.put_record.new.header c.put_record.new.items.items c.put_record.new.places.items is)
    c.put_record.ensures.err
