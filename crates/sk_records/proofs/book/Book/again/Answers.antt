use Rattle.sk_records.specs.Holding.BookHeld.{book_blocks}
use Rattle.sk_records.specs.Laws.ReadSound.{text_sound}
use Rattle.sk_records.proofs.book.Book.again.Goals as goal

pub invariant_of-result : goal.invariant_of-result
invariant_of-result c =
    let within = rw c.deref.ensures.value at c.in-Ok.ensures.within in
    let read = rw c.deref.ensures.value at c.in-Ok.ensures.read in
    record {
      first = within.first;
      held = record { within = within.all; index = rw c.deref-2.ensures.value at c.in_ok-places.ensures };
      is_text = text_sound c.args.text.items (book_blocks c.args.text.items c.in-Ok.parts.header c.in-Ok.parts.items.items) read;
    }
