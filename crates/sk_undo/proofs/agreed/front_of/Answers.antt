use Rattle.std.proofs.Common.{inr, arith}
use Rattle.sk_undo.proofs.AgreedLemmas.{end-front}
use Rattle.sk_undo.proofs.agreed.front_of.Goals as goal

pub returns-else-n-b-clause-value : goal.returns-else-n-b-clause-value
returns-else-n-b-clause-value c = end-front c.args.a.now c.args.b.now c.loop-n.n _ (inr (let e = c.if-n-b.false in omega (arith, e))) c.loop-n.invariant.2
