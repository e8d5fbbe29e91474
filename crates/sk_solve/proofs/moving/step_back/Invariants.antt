use Rattle.std.proofs.Common.{◌≡◌, drop, length}
use Rattle.sk_solve.specs.Search.{moved}
use Rattle.sk_solve.proofs.moving.step_back.Given as goal

abbrev pub invariant-loop-i : goal.invariant-loop-i
invariant-loop-i g l = (moved (drop l.i l.solved) (drop l.i l.step) l.point.items ≡ moved l.solved l.step l.fn.point.items) × (length l.point.items ≡ length l.fn.point.items)
