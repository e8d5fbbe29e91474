use Rattle.std.proofs.Common.{◌≡◌, ◌<◌, length, get_or, ap, ◌∙◌}
use Rattle.std.proofs.lemmas.Result.{on_ok_weaker, on_err_weaker}
use Rattle.sk_records.specs.Rows.{with_value}
use Rattle.sk_records.specs.Blocks.{on_record}
use Rattle.sk_records.specs.Holding.Places.{places_from}
use Rattle.sk_records.specs.Holding.BookHeld.{book_blocks}
use Rattle.sk_records.specs.Laws.TextKept.{text_value}
use Rattle.sk_records.proofs.BookChanged.{in_places, book_changed, book_stays, book_unchanged, book_is_kept, either_way}
use Rattle.sk_records.proofs.book.Book.set_value.Goals as goal

pub place_of-at-requires-clause-exists : goal.place_of-at-requires-clause-exists
place_of-at-requires-clause-exists c =
    rw c.deref-2.ensures.value (in_places c.self.inside.text.items c.self.inside.header c.self.inside.items.items c.args.rec.kind c.args.rec.place (rw (← c.self.view_is) at c.requires.exists))

pub invariant_of-self : goal.invariant_of-self
invariant_of-self c =
    let text = c.self.inside.text.items in
    let header = c.self.inside.header in
    let items = c.self.inside.items.items in
    let k = c.args.rec.kind in
    let i = c.args.rec.place in
    let lt : i < length (places_from k 0 items) = in_places text header items k i (rw (← c.self.view_is) at c.requires.exists) in
    let place : c.place_of-at.result ≡ get_or (places_from k 0 items) i 0 = rw c.deref-2.ensures.value at c.place_of-at.ensures.place in
    let below : c.place_of-at.result < length items = rw c.deref-2.ensures.value at c.place_of-at.ensures.below in
    either_way c.set_value_at.result c.set_value_at.ensures.ok c.set_value_at.ensures.err
    (λ e. book_stays text c.set_value_at.new.text.items header items c.set_value_at.new.items.items c.self.inside.places.items k i c.place_of-at.result (with_value c.args.key.now c.args.value.now) c.self.invariant lt place below e
    (text_value k c.args.key.now c.args.value.now c.requires.key c.requires.value i (book_blocks text header items) c.self.invariant.is_text))
    (λ e. book_is_kept text c.set_value_at.new.text.items header items c.set_value_at.new.items.items c.self.inside.places.items k i c.place_of-at.result c.self.invariant lt place below e)

pub returns-clause-ok : goal.returns-clause-ok
returns-clause-ok c =
    let text = c.self.inside.text.items in
    let header = c.self.inside.header in
    let items = c.self.inside.items.items in
    let k = c.args.rec.kind in
    let i = c.args.rec.place in
    let lt : i < length (places_from k 0 items) = in_places text header items k i (rw (← c.self.view_is) at c.requires.exists) in
    let place : c.place_of-at.result ≡ get_or (places_from k 0 items) i 0 = rw c.deref-2.ensures.value at c.place_of-at.ensures.place in
    let below : c.place_of-at.result < length items = rw c.deref-2.ensures.value at c.place_of-at.ensures.below in
    on_ok_weaker c.set_value_at.result
    (λ e. book_changed text c.set_value_at.new.text.items header items c.set_value_at.new.items.items c.self.inside.places.items k i c.place_of-at.result (with_value c.args.key.now c.args.value.now) c.self.invariant lt place below e
    ∙ ap (on_record k i (with_value c.args.key.now c.args.value.now)) c.self.view_is)
    c.set_value_at.ensures.ok

pub returns-clause-err : goal.returns-clause-err
returns-clause-err c =
    let text = c.self.inside.text.items in
    let header = c.self.inside.header in
    let items = c.self.inside.items.items in
    let k = c.args.rec.kind in
    let i = c.args.rec.place in
    let lt : i < length (places_from k 0 items) = in_places text header items k i (rw (← c.self.view_is) at c.requires.exists) in
    let place : c.place_of-at.result ≡ get_or (places_from k 0 items) i 0 = rw c.deref-2.ensures.value at c.place_of-at.ensures.place in
    let below : c.place_of-at.result < length items = rw c.deref-2.ensures.value at c.place_of-at.ensures.below in
    on_err_weaker c.set_value_at.result
    (λ e. book_unchanged text c.set_value_at.new.text.items header items c.set_value_at.new.items.items c.self.inside.places.items k i c.place_of-at.result c.self.invariant lt place below e ∙ c.self.view_is)
    c.set_value_at.ensures.err
