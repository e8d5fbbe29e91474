use Rattle.std.proofs.Common.{drop, sym, ◌∙◌, arith}
use Rattle.sk_solve.proofs.Found.{step-ended}
use Rattle.sk_solve.proofs.moving.step_back.Goals as goal

pub returns-then-i-step-clause-value : goal.returns-then-i-step-clause-value
returns-then-i-step-clause-value g c = sym c.loop-i.invariant.0 ∙ step-ended (drop c.loop-i.i c.args.solved.now) c.args.step.now c.loop-i.i c.loop-i.point.items (let e = c.if-i-step.true in omega (arith, e))
