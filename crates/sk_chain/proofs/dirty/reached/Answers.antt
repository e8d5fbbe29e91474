use Rattle.sk_chain.proofs.Reaching.{reached_first, reached_more, reached_few, reached_all}
use Rattle.std.proofs.Common.{refl, arith}
use Rattle.sk_chain.proofs.dirty.reached.Goals as goal

pub loop-next-init : goal.loop-next-init
loop-next-init c = reached_first c.args.places.now.keys c.args.table.now c.args.changed _ _ c.requires.has c.new-dirty.ensures.empty c.in_ok-insert.ensures.keys

pub loop-next-preserved : goal.loop-next-preserved
loop-next-preserved c = reached_more c.args.places.now.keys c.args.table.now c.args.changed c.loop-next.next c.loop-next.dirty.keys _ _ refl c.loop-next.invariant c.in_ok-reach_from.ensures

pub loop-next-smaller : goal.loop-next-smaller
loop-next-smaller c =
    let few = reached_few c.args.places.now.keys c.args.table.now c.args.changed c.loop-next.next c.loop-next.dirty.keys c.len.ensures.unique c.loop-next.invariant in
    omega (arith, few, c.len.ensures.len, c.loop-next-test.true)

pub returns : goal.returns
returns c = reached_all c.args.places.now.keys c.args.table.now c.args.changed c.loop-next.next c.loop-next.dirty.keys (omega (arith, c.len.ensures.len, c.loop-next-test.false)) c.loop-next.invariant
