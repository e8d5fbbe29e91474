use Rattle.sk_records.specs.declared.kinds.Kind.TheVariants.{Entity}
use Rattle.sk_records.proofs.AnewSet.{anew_book}
use Rattle.sk_records.proofs.book.Book.into_entities_set.Goals as goal

pub invariant_of-result : goal.invariant_of-result
invariant_of-result c =
    let b = c.self.inside in
    let n = c.make_anew.new in
    anew_book b.text.items n.text.items Entity c.args.lines.now b.header n.header b.items.items n.items.items b.places.items n.places.items c.self.invariant c.requires.given c.in_ok-make_anew.ensures.ok
