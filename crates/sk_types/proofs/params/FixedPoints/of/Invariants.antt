use Rattle.std.proofs.Common.{take}
use Rattle.sk_types.specs.FixedPoints.{HasFixed}
use Rattle.sk_types.proofs.params.FixedPoints.of.Given as goal

abbrev pub invariant-loop-constraint : goal.invariant-loop-constraint
invariant-loop-constraint g l = HasFixed l.fixed (take l.constraint-index l.constraints)
