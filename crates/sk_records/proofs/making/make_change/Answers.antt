use Rattle.std.proofs.Common.{◌≡◌, ◌<◌, ℕ, length, get_or, ap, ◌∙◌, arith}
use Rattle.std.proofs.lemmas.Result.{on_ok_weaker}
use Rattle.sk_records.specs.Rows.{with_value, with_map}
use Rattle.sk_records.specs.Given.{given_list}
use Rattle.sk_records.specs.Holding.Held.{bytes_at, blocks_at}
use Rattle.sk_records.specs.Blocks.{on_record}
use Rattle.sk_records.specs.Holding.Places.{places_from}
use Rattle.sk_records.specs.Holding.ChangesHeld.{edit_place}
use Rattle.sk_records.proofs.PlacesLemmas.{length_places}
use Rattle.sk_records.proofs.ChangesMade.{held_changed, held_stays, place_is}
use Rattle.sk_records.proofs.making.make_change.Goals as goal

pub place_of-at-requires-clause-exists : goal.place_of-at-requires-clause-exists
place_of-at-requires-clause-exists c =
    rw c.deref.ensures.value (omega (arith, c.requires.exists, place_is c.args.bytes.now c.args.edit, c.place_in-place.ensures, length_places c.args.text.now.items c.args.kind 0 c.args.items.now.items))

pub returns-in-Value-clause-ok : goal.returns-in-Value-clause-ok
returns-in-Value-clause-ok c =
    let old = c.args.text.now.items in
    let items = c.args.items.now.items in
    let k = c.args.kind in
    let e = c.in-Value.edit in
    let i = c.place_in-place.result in
    let lt : i < length (places_from k 0 items) = omega (arith, c.requires.exists, place_is c.args.bytes.now c.args.edit, c.place_in-place.ensures, length_places old k 0 items) in
    let place : c.place_of-at.result ≡ get_or (places_from k 0 items) i 0 = rw c.deref.ensures.value at c.place_of-at.ensures.place in
    let below : c.place_of-at.result < length items = rw c.deref.ensures.value at c.place_of-at.ensures.below in
    let f = with_value (bytes_at c.args.bytes.now e.start e.middle) (bytes_at c.args.bytes.now e.middle e.end) in
    let same : i ≡ e.place = c.place_in-place.ensures ∙ ap edit_place c.in-Value.is in
    rw c.in-Value.is (on_ok_weaker c.set_value_at.result
    (λ ch. held_changed old c.set_value_at.new.text.items items c.set_value_at.new.items.items c.args.places.now k i c.place_of-at.result f c.requires.held lt place below ch ∙ ap (λ (n : ℕ). on_record k n f (blocks_at old items)) same)
    c.set_value_at.ensures.ok)

pub returns-in-Value-clause-held : goal.returns-in-Value-clause-held
returns-in-Value-clause-held c =
    let old = c.args.text.now.items in
    let items = c.args.items.now.items in
    let k = c.args.kind in
    let e = c.in-Value.edit in
    let i = c.place_in-place.result in
    let lt : i < length (places_from k 0 items) = omega (arith, c.requires.exists, place_is c.args.bytes.now c.args.edit, c.place_in-place.ensures, length_places old k 0 items) in
    let place : c.place_of-at.result ≡ get_or (places_from k 0 items) i 0 = rw c.deref.ensures.value at c.place_of-at.ensures.place in
    let below : c.place_of-at.result < length items = rw c.deref.ensures.value at c.place_of-at.ensures.below in
    let f = with_value (bytes_at c.args.bytes.now e.start e.middle) (bytes_at c.args.bytes.now e.middle e.end) in
    on_ok_weaker c.set_value_at.result
    (λ ch. held_stays old c.set_value_at.new.text.items items c.set_value_at.new.items.items c.args.places.now k i c.place_of-at.result f c.requires.held lt place below ch)
    c.set_value_at.ensures.ok

pub returns-in-Map-clause-ok : goal.returns-in-Map-clause-ok
returns-in-Map-clause-ok c =
    let old = c.args.text.now.items in
    let items = c.args.items.now.items in
    let k = c.args.kind in
    let e = c.in-Map.edit in
    let i = c.place_in-place.result in
    let lt : i < length (places_from k 0 items) = omega (arith, c.requires.exists, place_is c.args.bytes.now c.args.edit, c.place_in-place.ensures, length_places old k 0 items) in
    let place : c.place_of-at.result ≡ get_or (places_from k 0 items) i 0 = rw c.deref.ensures.value at c.place_of-at.ensures.place in
    let below : c.place_of-at.result < length items = rw c.deref.ensures.value at c.place_of-at.ensures.below in
    let f = with_map (given_list (bytes_at c.args.bytes.now e.start e.end)) in
    let same : i ≡ e.place = c.place_in-place.ensures ∙ ap edit_place c.in-Map.is in
    rw c.in-Map.is (on_ok_weaker c.set_list_at.result
    (λ ch. held_changed old c.set_list_at.new.text.items items c.set_list_at.new.items.items c.args.places.now k i c.place_of-at.result f c.requires.held lt place below ch ∙ ap (λ (n : ℕ). on_record k n f (blocks_at old items)) same)
    c.set_list_at.ensures.ok)

pub returns-in-Map-clause-held : goal.returns-in-Map-clause-held
returns-in-Map-clause-held c =
    let old = c.args.text.now.items in
    let items = c.args.items.now.items in
    let k = c.args.kind in
    let e = c.in-Map.edit in
    let i = c.place_in-place.result in
    let lt : i < length (places_from k 0 items) = omega (arith, c.requires.exists, place_is c.args.bytes.now c.args.edit, c.place_in-place.ensures, length_places old k 0 items) in
    let place : c.place_of-at.result ≡ get_or (places_from k 0 items) i 0 = rw c.deref.ensures.value at c.place_of-at.ensures.place in
    let below : c.place_of-at.result < length items = rw c.deref.ensures.value at c.place_of-at.ensures.below in
    let f = with_map (given_list (bytes_at c.args.bytes.now e.start e.end)) in
    on_ok_weaker c.set_list_at.result
    (λ ch. held_stays old c.set_list_at.new.text.items items c.set_list_at.new.items.items c.args.places.now k i c.place_of-at.result f c.requires.held lt place below ch)
    c.set_list_at.ensures.ok
