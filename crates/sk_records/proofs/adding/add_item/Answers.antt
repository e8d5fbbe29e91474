use Rattle.std.proofs.Common.{◌∙◌, sym}
use Rattle.std.proofs.lemmas.Result.{on_ok_weaker}
use Rattle.sk_records.proofs.Growth.{items_grow}
use Rattle.sk_records.proofs.RecordGoes.{ready_book}
use Rattle.sk_records.proofs.RecordsAdded.{none_added, new_item, item_added}
use Rattle.sk_records.proofs.adding.add_item.Goals as goal

pub returns-then-not-holds-clause-ok : goal.returns-then-not-holds-clause-ok
returns-then-not-holds-clause-ok c = none_added c.args.text.now.items c.args.kind c.args.item c.args.header.now c.args.items.now.items c.args.places.now.items c.requires.first c.requires.held (sym c.holds.ensures ∙ c.if-not-holds.true) c.requires.of_kind

pub make_ready-requires-clause-within : goal.make_ready-requires-clause-within
make_ready-requires-clause-within c = rw c.deref.ensures.value (items_grow c.args.text.now.items c.push_feed.new.text.items c.args.items.now.items c.push_feed.ensures.grown c.requires.held.within)

pub put_record-requires-clause-new : goal.put_record-requires-clause-new
put_record-requires-clause-new c = new_item c.args.text.now.items c.push_feed.new.text.items c.args.kind c.args.item c.in_ok-tail.tail c.push_feed.ensures.grown c.requires.within (sym c.holds.ensures ∙ c.if-not-holds.false) c.in_ok-tail.ensures.feed c.in_ok-tail.ensures.within

pub returns-clause-ok : goal.returns-clause-ok
returns-clause-ok c =
    let old = c.args.text.now.items in
    let mid = c.push_feed.new.text.items in
    let same = rw c.deref.ensures.value at c.make_ready.ensures.blocks in
    let book = ready_book old mid c.args.header.now c.args.items.now.items c.make_ready.new.items.items c.args.places.now.items c.push_feed.ensures.grown c.requires.first c.requires.held same in
    let is = new_item old mid c.args.kind c.args.item c.in_ok-tail.tail c.push_feed.ensures.grown c.requires.within (sym c.holds.ensures ∙ c.if-not-holds.false) c.in_ok-tail.ensures.feed c.in_ok-tail.ensures.within in
    on_ok_weaker c.put_record.result
    (λ put. item_added old mid c.put_record.new.text.items c.args.kind c.args.item c.in_ok-tail.tail c.args.header.now c.put_record.new.header c.args.items.now.items c.make_ready.new.items.items c.put_record.new.items.items c.put_record.new.places.items c.push_feed.ensures.grown c.requires.within is book put)
    c.put_record.ensures.ok
