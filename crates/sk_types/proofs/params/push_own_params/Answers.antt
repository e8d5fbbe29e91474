use Rattle.std.proofs.Common.{arith}
use Rattle.sk_types.proofs.OwnHandles.{own_handle}
use Rattle.sk_types.proofs.params.push_own_params.Goals as goal

pub overflow_add-first : goal.overflow_add-first
overflow_add-first g c = omega (arith, own_handle c.args.entity.now c.in-Own.first c.loop-i.i c.own_count-i-end.result c.in-Own.is c.requires c.own_count-i-end.ensures.count c.loop-i-test.true)
