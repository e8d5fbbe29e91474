use Rattle.std.proofs.Common.{◌≡◌, length, arith}
use Rattle.std.proofs.lemmas.Result.{on_ok_weaker}
use Rattle.sk_records.specs.Holding.Places.{places_from}
use Rattle.sk_records.proofs.AnewSet.{anew_standing, anew_added}
use Rattle.sk_records.proofs.anew.make_anew.Goals as goal

pub returns-then-count-gt0 : goal.returns-then-count-gt0
returns-then-count-gt0 c =
    record {
      ok = on_ok_weaker c.set_standing.result
          (λ made. anew_standing c.args.text.now.items c.set_standing.new.text.items c.args.kind c.args.lines.now c.args.header.now c.args.items.now.items c.set_standing.new.items.items c.set_standing.new.places.items c.requires.first c.set_standing.ensures.grown made)
          c.set_standing.ensures.ok;
    }

pub returns-else-count-gt0 : goal.returns-else-count-gt0
returns-else-count-gt0 c =
    let items = c.args.items.now.items in
    let counted : c.count.result ≡ length (places_from c.args.kind 0 items) = rw c.deref-2.ensures.value at c.count.ensures in
    let none : length (places_from c.args.kind 0 items) ≡ 0 = omega (arith, counted, c.if-count-gt0.false) in
    record {
      ok = on_ok_weaker c.change_in_place.result
          (λ made. anew_added c.args.text.now.items c.change_in_place.new.text.items c.args.kind c.args.lines.now c.args.header.now c.change_in_place.new.header items c.change_in_place.new.items.items c.change_in_place.new.places.items none made)
          c.change_in_place.ensures.ok;
    }
