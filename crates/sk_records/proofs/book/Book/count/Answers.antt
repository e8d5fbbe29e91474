use Rattle.std.proofs.Common.{◌∙◌}
use Rattle.sk_records.proofs.PlacesLemmas.{length_places}
use Rattle.sk_records.proofs.book.Book.count.Goals as goal

pub returns : goal.returns
returns c =
    let e = rw c.deref-2.ensures.value at c.count.ensures in
    rw (← c.self.view_is) (e ∙ length_places c.self.inside.text.items c.args.kind 0 c.self.inside.items.items)
