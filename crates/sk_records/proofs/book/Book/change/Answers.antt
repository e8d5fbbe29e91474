use Rattle.sk_records.specs.Given.{AreRecords}
use Rattle.sk_records.proofs.BookChanged.{either_way}
use Rattle.sk_records.proofs.RecordGoes.{kept_book}
use Rattle.sk_records.proofs.ChangesMade.{changed_book}
use Rattle.sk_records.proofs.book.Book.change.Goals as goal

pub invariant_of-self : goal.invariant_of-self
invariant_of-self c =
    let b = c.self.inside in
    let l = c.changes.inside in
    let n = c.change_all.new in
    let ok = rw (c.deref.ensures.value, c.deref-2.ensures.value) at c.change_all.ensures.ok in
    let given : AreRecords l.kind c.args.added.now = rw (← c.changes.view_is) at c.requires.given in
    either_way c.change_all.result ok c.change_all.ensures.err
    (λ is. changed_book b.text.items n.text.items l.kind l.bytes.items l.edits.items c.args.added.now b.header n.header b.items.items n.items.items b.places.items n.places.items c.self.invariant c.changes.invariant given is)
    (λ is. kept_book b.text.items n.text.items b.header n.header b.items.items n.items.items b.places.items n.places.items c.self.invariant is)
