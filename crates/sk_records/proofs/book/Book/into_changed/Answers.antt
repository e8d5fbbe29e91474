use Rattle.sk_records.specs.Given.{AreRecords}
use Rattle.sk_records.proofs.ChangesMade.{changed_book}
use Rattle.sk_records.proofs.book.Book.into_changed.Goals as goal

pub invariant_of-result : goal.invariant_of-result
invariant_of-result c =
    let b = c.self.inside in
    let l = c.changes.inside in
    let n = c.change_in_place.new in
    let is = rw (c.deref.ensures.value, c.deref-2.ensures.value) at c.in_ok-change_in_place.ensures.ok in
    let given : AreRecords l.kind c.args.added.now = rw (← c.changes.view_is) at c.requires.given in
    changed_book b.text.items n.text.items l.kind l.bytes.items l.edits.items c.args.added.now b.header n.header b.items.items n.items.items b.places.items n.places.items c.self.invariant c.changes.invariant given is

pub change_in_place-requires-clause-exist : goal.change_in_place-requires-clause-exist
change_in_place-requires-clause-exist c = rw (c.deref.ensures.value, c.deref-2.ensures.value) (rw (← c.changes.view_is, ← c.self.view_is) at c.requires.exist)
