use Rattle.std.proofs.Common.{◌≡◌, ℕ, ◌<◌, length, get_or, arith, ap, sym, ◌∙◌}
use Rattle.sk_records.specs.declared.items.Item.TheVariants.{Held}
use Rattle.sk_records.specs.Holding.Places.{places_from}
use Rattle.sk_records.proofs.PlacesLemmas.{length_places, find_record, held_within, same_record}
use Rattle.sk_records.proofs.book.record_rows.Goals as goal

pub place_of-at-requires-clause-exists : goal.place_of-at-requires-clause-exists
place_of-at-requires-clause-exists c = omega (arith, c.requires.exists, length_places c.args.text.now c.args.rec.kind 0 c.args.items.now)

pub returns-in-Held-clause-rows : goal.returns-in-Held-clause-rows
returns-in-Held-clause-rows c =
    let items = c.args.items.now in
    let lt : c.args.rec.place < length (places_from c.args.rec.kind 0 items) = omega (arith, c.requires.exists, length_places c.args.text.now c.args.rec.kind 0 items) in
    let is = find_record c.args.text.now c.args.rec.kind items c.args.rec.place lt in
    let item : c.index-items-at.result ≡ Held is.held = c.index-items-at.is ∙ ap (λ (n : ℕ). get_or items n c.index-items-at.result) c.place_of-at.ensures.place ∙ is.item c.index-items-at.result in
    let both : Held c.in-Held.record ≡ Held is.held = sym c.in-Held.is ∙ item in
    let same : c.in-Held.record ≡ is.held = same_record c.in-Held.record is.held both in
    rw (c.deref.ensures.value, same) is.lines

pub returns-in-Held-clause-within : goal.returns-in-Held-clause-within
returns-in-Held-clause-within c =
    rw c.deref.ensures.value (held_within c.args.text.now c.args.items.now c.place_of-at.result c.index-items-at.result c.in-Held.record c.requires.held.within c.place_of-at.ensures.below c.index-items-at.is c.in-Held.is).rows

pub returns-in_default : goal.returns-in_default
returns-in_default c =
    let items = c.args.items.now in
    let lt : c.args.rec.place < length (places_from c.args.rec.kind 0 items) = omega (arith, c.requires.exists, length_places c.args.text.now c.args.rec.kind 0 items) in
    let is = find_record c.args.text.now c.args.rec.kind items c.args.rec.place lt in
    let item : c.index-items-at.result ≡ Held is.held = c.index-items-at.is ∙ ap (λ (n : ℕ). get_or items n c.index-items-at.result) c.place_of-at.ensures.place ∙ is.item c.index-items-at.result in
    absurd (c.in_default.not-Held is.held item)
