use Rattle.std.proofs.Common.{List, map, subst, sym}
use Rattle.std.specs.List.{All}
use Rattle.sk_records.specs.Blocks.{Block}
use Rattle.sk_records.specs.Holding.ChangesHeld.{change_of, Exists}
use Rattle.sk_records.specs.Holding.Copied.{AreMoved}
use Rattle.sk_records.proofs.Growth.{span_grows}
use Rattle.sk_records.proofs.PackLemmas.{book_moved}
use Rattle.sk_records.proofs.ChangesMade.{all_made}
use Rattle.sk_records.proofs.making.change_all.Goals as goal

pub make_changes-requires-clause-held : goal.make_changes-requires-clause-held
make_changes-requires-clause-held c =
    let are : AreMoved c.args.text.now.items c.pack_items.new.out.items c.args.items.now.items c.in_ok-next.next.items = rw (c.deref-2.ensures.value, c.deref-3.ensures.value) at c.in_ok-next.ensures.items in
    let index = rw c.deref-4.ensures.value at c.in_ok-index.ensures in
    rw c.deref-5.ensures.value (record { within = are.within; index = index })

pub make_changes-requires-clause-exist : goal.make_changes-requires-clause-exist
make_changes-requires-clause-exist c =
    let are : AreMoved c.args.text.now.items c.pack_items.new.out.items c.args.items.now.items c.in_ok-next.next.items = rw (c.deref-2.ensures.value, c.deref-3.ensures.value) at c.in_ok-next.ensures.items in
    let P : List Block → Type 0 = λ bs. All (Exists c.args.kind bs) (map (change_of c.args.bytes.now) c.args.edits.now) in
    subst P (sym are.blocks) c.requires.exist

pub returns-clause-ok : goal.returns-clause-ok
returns-clause-ok c =
    let old = c.args.text.now.items in
    let items = c.args.items.now.items in
    let first = c.pack_items.new.out.items in
    let are : AreMoved old first items c.in_ok-next.next.items = rw (c.deref-2.ensures.value, c.deref-3.ensures.value) at c.in_ok-next.ensures.items in
    let line = rw c.deref.ensures.value at c.in_ok-line.ensures.line in
    let same = book_moved old c.pack_span.new.out.items first c.args.header.now c.in_ok-line.line items c.in_ok-next.next.items line c.in_ok-line.ensures.within c.pack_items.ensures.grown are in
    all_made old first c.make_changes.new.text.items c.add_all.new.text.items c.args.kind (map (change_of c.args.bytes.now) c.args.edits.now) c.args.added.now c.args.header.now c.in_ok-line.line c.add_all.new.header items c.in_ok-next.next.items c.make_changes.new.items.items c.add_all.new.items.items c.add_all.new.places.items
    same (span_grows c.pack_span.new.out.items first c.in_ok-line.line c.pack_items.ensures.grown c.in_ok-line.ensures.within) c.make_changes.ensures.grown c.in_ok-make_changes.ensures.ok c.in_ok-add_all.ensures.ok
