use Rattle.std.proofs.Common.{◌≡◌, ap, sym, ◌∙◌}
use Rattle.sk_records.specs.Holding.Places.{places_from}
use Rattle.sk_records.specs.Holding.Inserted.{last_of}
use Rattle.sk_records.proofs.PlacesLemmas.{list_at}
use Rattle.sk_records.proofs.Shifted.{last_is, nearest_own}
use Rattle.sk_records.proofs.inserting.+nearest.Goals as goal

pub returns-in-Some : goal.returns-in-Some
returns-in-Some t c =
    let a = c.in-Some.ensures.item in
    let list = c.deref.result.now in
    let same : list ≡ places_from c.args.kind 0 c.args.items.now = c.deref.ensures.value ∙ list_at c.args.places.now c.args.items.now c.args.kind c.index-places-place.result c.requires (rw c.place.ensures at c.index-places-place.is) in
    nearest_own c.args.kind c.args.items.now c.in-Some.place.now (ap last_of (sym same) ∙ last_is list c.in-Some.place.now a.3.0 a.1)
