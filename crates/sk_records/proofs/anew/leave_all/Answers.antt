use Rattle.std.proofs.Common.{◌<◌, length, sym, ◌∙◌, arith, subst}
use Rattle.sk_records.specs.Holding.Held.{ItemWithin}
use Rattle.sk_records.proofs.Shifted.{still}
use Rattle.sk_records.proofs.anew.leave_all.Goals as goal

pub leave-requires : goal.leave-requires
leave-requires c =
    let old = c.args.items.now in
    let now = c.loop-i.items in
    let i = c.loop-i.i in
    let x = c.index-items-i-in-loop-i.result in
    let lt : i < length now = omega (arith, c.loop-i.invariant.len) in
    let lo : i < length old = omega (arith, c.loop-i.invariant.len) in
    let is = still old now i x c.loop-i.invariant.rest lt lo c.index-items-i-in-loop-i.is in
    subst (ItemWithin c.args.text.now) (sym is ∙ c.index-items-i-in-loop-i.is) (c.requires i x lo)
