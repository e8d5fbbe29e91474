use Rattle.std.proofs.Common.{◌≡◌, ℕ, ◌+◌, ◌<◌, ◌++◌, ◌∷◌, length, take, drop, get_or, arith, sym, ap, ◌∙◌, subst, true, length-append}
use Rattle.std.specs.List.{All}
use Rattle.std.proofs.lemmas.List.{take-append-drop}
use Rattle.sk_records.specs.declared.items.Item.{Item}
use Rattle.sk_records.specs.declared.items.Item.TheVariants.{Lines, Held}
use Rattle.sk_records.specs.Holding.Held.{ItemWithin}
use Rattle.sk_records.specs.Holding.Places.{all_places}
use Rattle.sk_records.specs.Holding.Spots.{gone_len, IsSpot}
use Rattle.std.proofs.lemmas.List.Elements.{All-append, All-cons}
use Rattle.sk_records.proofs.HeldLines.{all_left, all_right}
use Rattle.sk_records.proofs.SpotLemmas.{gone_below, front_within, back_is, spot_end, spot_front_other, spot_blank, spot_more, count_is, lists_shrunk, put_and_shrunk}
use Rattle.sk_records.proofs.spots.spot_behind.Goals as goal

pub returns-then-next-len-clause-spot : goal.returns-then-next-len-clause-spot
returns-then-next-len-clause-spot c = λ front held back whole len.
    let text = c.args.text.now in
    let items = c.args.items.now.items in
    let place = c.args.place in
    let all : All (ItemWithin text) items = c.requires.within in
    let count : c.gone_len.result ≡ gone_len back = count_is c.deref.result.now items back c.gone_len.result place c.deref.ensures.value c.gone_len.ensures.count (back_is text front held back items place whole len all) in
    spot_end text front held back items place whole len all (omega (arith, count, c.if-next-len.true))

pub returns-in-Other-clause-spot : goal.returns-in-Other-clause-spot
returns-in-Other-clause-spot c = λ front held back whole len.
    let text = c.args.text.now in
    let items = c.args.items.now.items in
    let place = c.args.place in
    let all : All (ItemWithin text) items = c.requires.within in
    let count : c.gone_len.result ≡ gone_len back = count_is c.deref.result.now items back c.gone_len.result place c.deref.ensures.value c.gone_len.ensures.count (back_is text front held back items place whole len all) in
    let x : Item = c.index.result.now in
    let is : x ≡ get_or items (place + 1 + gone_len back) x = c.index.ensures ∙ ap (λ n. get_or items (place + 1 + n) x) count in
    let lt : place + 1 + gone_len back < length items = omega (arith, count, len, gone_below back, ap length whole, length-append front (Held held ∷ back), c.if-next-len.false) in
    spot_front_other text front held back items place whole len all x is lt (sym c.in-Other.ensures)

pub returns-in-Blank-clause-spot : goal.returns-in-Blank-clause-spot
returns-in-Blank-clause-spot c = λ front held back whole len.
    let text = c.args.text.now in
    let items = c.args.items.now.items in
    let place = c.args.place in
    let all : All (ItemWithin text) items = c.requires.within in
    let count : c.gone_len.result ≡ gone_len back = count_is c.deref.result.now items back c.gone_len.result place c.deref.ensures.value c.gone_len.ensures.count (back_is text front held back items place whole len all) in
    let x : Item = c.index.result.now in
    let is : x ≡ get_or items (place + 1 + gone_len back) x = c.index.ensures ∙ ap (λ n. get_or items (place + 1 + n) x) count in
    let lt : place + 1 + gone_len back < length items = omega (arith, count, len, gone_below back, ap length whole, length-append front (Held held ∷ back), c.if-next-len.false) in
    subst (λ (n : ℕ). IsSpot text front held back items (place + 1 + n + 1) true) (sym count) (spot_blank text front held back items place whole len all x is lt (sym c.in-Blank.ensures))

pub returns-in_ok-insert_one-in-BlankAndMore-clause-spot : goal.returns-in_ok-insert_one-in-BlankAndMore-clause-spot
returns-in_ok-insert_one-in-BlankAndMore-clause-spot c = λ front held back whole len.
    let text = c.args.text.now in
    let items = c.args.items.now.items in
    let place = c.args.place in
    let all : All (ItemWithin text) items = c.requires.within in
    let count : c.gone_len.result ≡ gone_len back = count_is c.deref.result.now items back c.gone_len.result place c.deref.ensures.value c.gone_len.ensures.count (back_is text front held back items place whole len all) in
    let x : Item = c.index.result.now in
    let is : x ≡ get_or items (place + 1 + gone_len back) x = c.index.ensures ∙ ap (λ n. get_or items (place + 1 + n) x) count in
    let lt : place + 1 + gone_len back < length items = omega (arith, count, len, gone_below back, ap length whole, length-append front (Held held ∷ back), c.if-next-len.false) in
    spot_more text front held back items place whole len all x is lt c.in-BlankAndMore.blank (sym c.in-BlankAndMore.ensures) c.drop_tail_from.new.items.items
    (put_and_shrunk text front held back items c.insert_one.new.items.items c.drop_tail_from.new.items.items place c.in-BlankAndMore.blank whole len c.in_ok-insert_one-in-BlankAndMore.ensures.items c.drop_tail_from.ensures)

pub returns-in_ok-insert_one-in-BlankAndMore-clause-index : goal.returns-in_ok-insert_one-in-BlankAndMore-clause-index
returns-in_ok-insert_one-in-BlankAndMore-clause-index c =
    c.in_ok-insert_one-in-BlankAndMore.ensures.index ∙ sym (ap all_places c.drop_tail_from.ensures ∙ lists_shrunk c.args.text.now (c.args.place + 1 + 1) c.insert_one.new.items.items)

pub drop_tail_from-requires-clause-within : goal.drop_tail_from-requires-clause-within
drop_tail_from-requires-clause-within c =
    let text = c.args.text.now in
    let items = c.args.items.now.items in
    let at = c.args.place + 1 in
    let x : Item = c.index.result.now in
    let lt : at + c.gone_len.result < length items = omega arith in
    let x_within : ItemWithin text x = subst (ItemWithin text) (sym c.index.ensures) (c.requires.within (at + c.gone_len.result) x lt) in
    let s = front_within text x c.in-BlankAndMore.blank x_within (sym c.in-BlankAndMore.ensures) in
    let whole : All (ItemWithin text) (take at items ++ drop at items) = subst (All (ItemWithin text)) (sym (take-append-drop at items)) c.requires.within in
    rw c.in_ok-insert_one-in-BlankAndMore.ensures.items
    (All-append (ItemWithin text) (take at items) (Lines c.in-BlankAndMore.blank ∷ drop at items) (all_left (ItemWithin text) (take at items) (drop at items) whole)
    (All-cons (ItemWithin text) (Lines c.in-BlankAndMore.blank) (drop at items) s (all_right (ItemWithin text) (take at items) (drop at items) whole)))
