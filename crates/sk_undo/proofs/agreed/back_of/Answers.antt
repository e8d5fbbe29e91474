use Rattle.std.proofs.Common.{arith}
use Rattle.sk_undo.proofs.AgreedLemmas.{step-back, stop-back, end-back}
use Rattle.sk_undo.proofs.agreed.back_of.Goals as goal

pub loop-n-preserved : goal.loop-n-preserved
loop-n-preserved c = (
  let e = c.loop-n-test.true in omega (arith, e),
  let e = c.if-n-b.true in omega (arith, e),
  step-back c.args.a.now c.args.b.now c.loop-n.n _ (let e = c.loop-n-test.true in omega (arith, e)) (let e = c.if-n-b.true in omega (arith, e)) c.if-a-n.true c.loop-n.invariant.2,
)

pub returns-else-a-n-clause-value : goal.returns-else-a-n-clause-value
returns-else-a-n-clause-value c = stop-back c.args.a.now c.args.b.now c.loop-n.n _ (let e = c.loop-n-test.true in omega (arith, e)) (let e = c.if-n-b.true in omega (arith, e)) c.if-a-n.false c.loop-n.invariant.2

pub returns-else-n-b-clause-value : goal.returns-else-n-b-clause-value
returns-else-n-b-clause-value c = end-back c.args.a.now c.args.b.now c.loop-n.n _ (let e = c.if-n-b.false in omega (arith, e)) c.loop-n.invariant.2
