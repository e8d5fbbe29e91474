use Rattle.std.proofs.Common.{◌≡◌, ◌+◌, ◌-◌, ◌≤◌, length, drop}
use Rattle.std.specs.Prelude.{reverse}
use Rattle.sk_undo.specs.Changes.{agreed}
use Rattle.sk_undo.proofs.agreed.back_of.Given as goal

abbrev pub invariant-loop-n : goal.invariant-loop-n
invariant-loop-n l = (l.n ≤ length l.a) × (l.n ≤ length l.b) × (l.n + agreed (drop l.n (reverse l.a)) (drop l.n (reverse l.b)) ≡ agreed (reverse l.a) (reverse l.b))

abbrev pub decreases-loop-n : goal.decreases-loop-n
decreases-loop-n l = length l.a - l.n
