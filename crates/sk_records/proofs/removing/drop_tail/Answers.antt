use Rattle.std.proofs.Common.{◌≡◌, ◌<◌, length, arith, false, Some, ap, sym, ◌∙◌}
use Rattle.sk_records.specs.Holding.Removed.{is_gone, shrunk, shrink_first}
use Rattle.sk_records.proofs.Blank.{set_shrunk}
use Rattle.sk_records.proofs.removing.drop_tail.Goals as goal

pub returns-in-Some : goal.returns-in-Some
returns-in-Some c =
    let lt : c.loop-item.item-index < length c.loop-item.items = omega arith in
    let some : is_gone c.item-item.result ≡ false = ap is_gone c.item-item.is ∙ (sym c.is_gone.ensures ∙ c.if-not-is_gone.true) in
    let left : shrunk c.args.text.now c.item-item.result ≡ Some c.in-Some.rest = ap (shrunk c.args.text.now) c.item-item.is ∙ sym c.in-Some.ensures in
    set_shrunk c.args.text.now c.loop-item.items c.loop-item.item-index c.item-item.result c.in-Some.rest (shrink_first c.args.text.now c.args.items.now) lt c.item-item.is some left c.loop-item.invariant.same
