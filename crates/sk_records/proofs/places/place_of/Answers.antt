use Rattle.std.proofs.Common.{◌≡◌, ℕ, List, [], get_or, arith, ap, ◌∙◌}
use Rattle.std.proofs.lemmas.List.{get_or_default}
use Rattle.sk_records.specs.Holding.Places.{places_from}
use Rattle.sk_records.proofs.PlacesLemmas.{list_at, find_record}
use Rattle.sk_records.proofs.places.place_of.Goals as goal

pub returns-clause-place : goal.returns-clause-place
returns-clause-place c =
    let list : List ℕ = places_from c.args.rec.kind 0 c.args.items.now in
    let same : c.index-places-place.result.items ≡ list = list_at c.args.places.now c.args.items.now c.args.rec.kind c.index-places-place.result c.requires.index (rw c.place.ensures at c.index-places-place.is) in
    c.index.ensures ∙ ap (λ (l : List ℕ). get_or l c.args.rec.place c.index.result.now) same ∙ get_or_default list c.args.rec.place c.index.result.now 0 c.requires.exists

pub returns-clause-below : goal.returns-clause-below
returns-clause-below c =
    let list : List ℕ = places_from c.args.rec.kind 0 c.args.items.now in
    let same : c.index-places-place.result.items ≡ list = list_at c.args.places.now c.args.items.now c.args.rec.kind c.index-places-place.result c.requires.index (rw c.place.ensures at c.index-places-place.is) in
    let place : c.index.result.now ≡ get_or list c.args.rec.place 0 = c.index.ensures ∙ ap (λ (l : List ℕ). get_or l c.args.rec.place c.index.result.now) same ∙ get_or_default list c.args.rec.place c.index.result.now 0 c.requires.exists in
    omega (arith, place, (find_record [] c.args.rec.kind c.args.items.now c.args.rec.place c.requires.exists).below)
