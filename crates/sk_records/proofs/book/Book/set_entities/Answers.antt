use Rattle.sk_records.specs.declared.kinds.Kind.TheVariants.{Entity}
use Rattle.sk_records.proofs.BookChanged.{either_way}
use Rattle.sk_records.proofs.RecordGoes.{kept_book}
use Rattle.sk_records.proofs.AnewSet.{anew_book}
use Rattle.sk_records.proofs.book.Book.set_entities.Goals as goal

pub invariant_of-self : goal.invariant_of-self
invariant_of-self c =
    let b = c.self.inside in
    let n = c.set_anew.new in
    either_way c.set_anew.result c.set_anew.ensures.ok c.set_anew.ensures.err
    (λ is. anew_book b.text.items n.text.items Entity c.args.lines.now b.header n.header b.items.items n.items.items b.places.items n.places.items c.self.invariant c.requires.given is)
    (λ is. kept_book b.text.items n.text.items b.header n.header b.items.items n.items.items b.places.items n.places.items c.self.invariant is)
