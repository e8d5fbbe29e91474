use Rattle.std.proofs.Common.{◌<◌, length, arith}
use Rattle.sk_records.proofs.Shifted.{still}
use Rattle.sk_records.proofs.inserting.shift_list.Goals as goal

pub overflow_add-index_mut : goal.overflow_add-index_mut
overflow_add-index_mut c =
    let old = c.args.list.now.items in
    let now = c.loop-i.list.items in
    let lt : c.loop-i.i < length now = omega (arith, c.loop-i.invariant.len) in
    let lo : c.loop-i.i < length old = omega (arith, c.loop-i.invariant.len) in
    let x = still old now c.loop-i.i c.index_mut.result.now c.loop-i.invariant.rest lt lo c.index_mut.ensures.value in
    let fits = c.requires c.loop-i.i c.index_mut.result.now lo in
    omega (arith, x, fits)
