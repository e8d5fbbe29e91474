use Rattle.std.proofs.Common.{◌≡◌, ℕ, length, ap, ◌∙◌}
use Rattle.sk_records.specs.Blocks.{records}
use Rattle.sk_records.proofs.PlacesLemmas.{length_places}
use Rattle.sk_records.proofs.BookChanged.{either_way}
use Rattle.sk_records.proofs.RecordGoes.{added_book, kept_book}
use Rattle.sk_records.proofs.book.Book.add_record.Goals.{in-Ok, in-Err}
use Rattle.sk_records.proofs.book.Book.add_record.Goals as goal

pub invariant_of-self : goal.invariant_of-self
invariant_of-self c =
    let b = c.self.inside in
    let n = c.add_given.new in
    either_way c.add_given.result c.add_given.ensures.ok c.add_given.ensures.err
    (λ is. added_book b.text.items n.text.items c.args.kind c.args.lines.now b.header n.header b.items.items n.items.items b.places.items n.places.items c.self.invariant c.requires.given is)
    (λ is. kept_book b.text.items n.text.items b.header n.header b.items.items n.items.items b.places.items n.places.items c.self.invariant is)

pub returns-clause-id : goal.returns-clause-id
returns-clause-id c =
    let e = rw c.deref-2.ensures.value at c.count-place.ensures in
    let n : c.count-place.result ≡ length (records c.args.kind c.args.self.now) = rw (← c.self.view_is) (e ∙ length_places c.self.inside.text.items c.args.kind 0 c.self.inside.items.items) in
    elim c.match-add_given.branch [
      | in-Ok w ↦ rw w.result-is (ap (λ (m : ℕ). record { kind = c.args.kind; place = m }) n)
      | in-Err w ↦ rw w.result-is tt
    ]
