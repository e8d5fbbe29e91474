use Rattle.std.proofs.Common.{◌≡◌, drop}
use Rattle.sk_model.specs.Remap.{from_space}
use Rattle.sk_model.proofs.remap.from_space.Given as goal

abbrev pub invariant-loop-i : goal.invariant-loop-i
invariant-loop-i l = from_space (drop l.i l.body) ≡ from_space l.body
