use Rattle.std.proofs.Common.{◌≡◌, ◌<◌, ◌+◌, ◌++◌, ◌∷◌, length, take, drop, get_or, ap, ◌∙◌}
use Rattle.sk_records.specs.declared.items.Item.TheVariants.{Gone}
use Rattle.sk_records.specs.Blocks.{dropped}
use Rattle.sk_records.specs.Holding.Places.{places_from}
use Rattle.sk_records.specs.Holding.Removed.{shrink_first}
use Rattle.sk_records.proofs.PlacesLemmas.{list_of_kind}
use Rattle.sk_records.proofs.BookChanged.{in_places}
use Rattle.sk_records.proofs.BookDropped.{book_dropped, dropped_stays, six_lists}
use Rattle.sk_records.proofs.book.Book.drop_record.Goals as goal

pub place_of-at-requires-clause-exists : goal.place_of-at-requires-clause-exists
place_of-at-requires-clause-exists c =
    rw c.deref-2.ensures.value (in_places c.self.inside.text.items c.self.inside.header c.self.inside.items.items c.args.rec.kind c.args.rec.place (rw (← c.self.view_is) at c.requires.exists))

pub remove_place-requires-clause-kinds : goal.remove_place-requires-clause-kinds
remove_place-requires-clause-kinds c = six_lists c.self.inside.places.items c.self.inside.items.items c.self.invariant.held.index

pub remove_place-requires-clause-exists : goal.remove_place-requires-clause-exists
remove_place-requires-clause-exists c =
    rw (c.self.invariant.held.index, list_of_kind) (in_places c.self.inside.text.items c.self.inside.header c.self.inside.items.items c.args.rec.kind c.args.rec.place (rw (← c.self.view_is) at c.requires.exists))

pub invariant_of-self : goal.invariant_of-self
invariant_of-self c =
    let text = c.self.inside.text.items in
    let header = c.self.inside.header in
    let items = c.self.inside.items.items in
    let k = c.args.rec.kind in
    let i = c.args.rec.place in
    let lt : i < length (places_from k 0 items) = in_places text header items k i (rw (← c.self.view_is) at c.requires.exists) in
    let place : c.place_of-at.result ≡ get_or (places_from k 0 items) i 0 = rw c.deref-2.ensures.value at c.place_of-at.ensures.place in
    let after : c.remove_at.new.items.items ≡ take c.place_of-at.result items ++ Gone ∷ shrink_first text (drop (c.place_of-at.result + 1) items) = rw c.deref-3.ensures.value at c.remove_at.ensures in
    dropped_stays text header items c.remove_at.new.items.items c.self.inside.places.items c.remove_place.new.places.items k i c.place_of-at.result c.self.invariant lt place after c.remove_place.ensures

pub returns : goal.returns
returns c =
    let text = c.self.inside.text.items in
    let header = c.self.inside.header in
    let items = c.self.inside.items.items in
    let k = c.args.rec.kind in
    let i = c.args.rec.place in
    let lt : i < length (places_from k 0 items) = in_places text header items k i (rw (← c.self.view_is) at c.requires.exists) in
    let place : c.place_of-at.result ≡ get_or (places_from k 0 items) i 0 = rw c.deref-2.ensures.value at c.place_of-at.ensures.place in
    let after : c.remove_at.new.items.items ≡ take c.place_of-at.result items ++ Gone ∷ shrink_first text (drop (c.place_of-at.result + 1) items) = rw c.deref-3.ensures.value at c.remove_at.ensures in
    book_dropped text header items c.remove_at.new.items.items c.self.inside.places.items c.remove_place.new.places.items k i c.place_of-at.result c.self.invariant lt place after
    ∙ ap (dropped k i) c.self.view_is
