use Rattle.std.proofs.Common.{◌≡◌, drop}
use Rattle.sk_model.specs.Typed.{stray_constraint}
use Rattle.sk_model.proofs.whole.stray_constraint.Given as goal

abbrev pub invariant-loop-constraint : goal.invariant-loop-constraint
invariant-loop-constraint g l = stray_constraint (drop l.constraint-index l.constraints) ≡ stray_constraint l.constraints
