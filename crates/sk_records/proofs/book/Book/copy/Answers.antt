use Rattle.std.proofs.Common.{◌∙◌, subst, sym}
use Rattle.sk_records.specs.Holding.Copied.{AreMoved}
use Rattle.sk_records.specs.Written.{IsText}
use Rattle.sk_records.proofs.Growth.{span_grows}
use Rattle.sk_records.proofs.PackLemmas.{book_moved}
use Rattle.sk_records.proofs.book.Book.copy.Goals as goal

pub invariant_of-result : goal.invariant_of-result
invariant_of-result c =
    let old = c.self.inside.text.items in
    let new = c.pack_items.new.out.items in
    let items = c.self.inside.items.items in
    let are : AreMoved old new items c.in_ok-items.items.items = rw (c.deref-2.ensures.value, c.deref-3.ensures.value) at c.in_ok-items.ensures.items in
    let line = rw c.deref.ensures.value at c.in_ok-header.ensures.line in
    let same = book_moved old c.pack_span.new.out.items new c.self.inside.header c.in_ok-header.header items c.in_ok-items.items.items line c.in_ok-header.ensures.within c.pack_items.ensures.grown are in
    record {
      first = span_grows c.pack_span.new.out.items new c.in_ok-header.header c.pack_items.ensures.grown c.in_ok-header.ensures.within;
      held = record { within = are.within; index = rw c.deref-4.ensures.value at c.in_ok-places.ensures };
      is_text = subst IsText (sym same) c.self.invariant.is_text;
    }

pub returns : goal.returns
returns c =
    let old = c.self.inside.text.items in
    let new = c.pack_items.new.out.items in
    let items = c.self.inside.items.items in
    let are : AreMoved old new items c.in_ok-items.items.items = rw (c.deref-2.ensures.value, c.deref-3.ensures.value) at c.in_ok-items.ensures.items in
    let line = rw c.deref.ensures.value at c.in_ok-header.ensures.line in
    book_moved old c.pack_span.new.out.items new c.self.inside.header c.in_ok-header.header items c.in_ok-items.items.items line c.in_ok-header.ensures.within c.pack_items.ensures.grown are ∙ c.self.view_is
