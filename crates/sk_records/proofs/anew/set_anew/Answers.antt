use Rattle.std.proofs.Common.{◌≡◌, length, arith}
use Rattle.std.proofs.lemmas.Result.{on_ok_weaker, on_err_weaker}
use Rattle.sk_records.specs.Holding.Places.{places_from}
use Rattle.sk_records.proofs.RoomMade.{both_err}
use Rattle.sk_records.proofs.AnewSet.{kept_alike, anew_standing, anew_added}
use Rattle.sk_records.proofs.anew.set_anew.Goals as goal

pub returns-then-count-gt0-clause-ok : goal.returns-then-count-gt0-clause-ok
returns-then-count-gt0-clause-ok c =
    on_ok_weaker c.set_standing.result
    (λ made. anew_standing c.args.text.now.items c.set_standing.new.text.items c.args.kind c.args.lines.now c.args.header.now c.args.items.now.items c.set_standing.new.items.items c.set_standing.new.places.items c.requires.first c.set_standing.ensures.grown made)
    c.set_standing.ensures.ok

pub returns-then-count-gt0-clause-err : goal.returns-then-count-gt0-clause-err
returns-then-count-gt0-clause-err c =
    on_err_weaker c.set_standing.result
    (λ e. kept_alike c.args.text.now.items c.set_standing.new.text.items c.args.header.now c.args.items.now.items c.set_standing.new.items.items c.args.places.now.items c.set_standing.new.places.items c.set_standing.ensures.grown c.requires.first c.requires.held e.0 e.1)
    (both_err _ _ c.set_standing.result c.set_standing.ensures.items c.set_standing.ensures.places)

pub returns-else-count-gt0-clause-ok : goal.returns-else-count-gt0-clause-ok
returns-else-count-gt0-clause-ok c =
    let items = c.args.items.now.items in
    let counted : c.count.result ≡ length (places_from c.args.kind 0 items) = rw c.deref-2.ensures.value at c.count.ensures in
    let none : length (places_from c.args.kind 0 items) ≡ 0 = omega (arith, counted, c.if-count-gt0.false) in
    on_ok_weaker c.change_all.result
    (λ made. anew_added c.args.text.now.items c.change_all.new.text.items c.args.kind c.args.lines.now c.args.header.now c.change_all.new.header items c.change_all.new.items.items c.change_all.new.places.items none made)
    c.change_all.ensures.ok
