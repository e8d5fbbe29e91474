use Rattle.std.proofs.Common.{◌≡◌, ◌++◌, take, drop}
use Rattle.sk_model.specs.Remap.{until_space}
use Rattle.sk_model.proofs.remap.until_space.Given as goal

abbrev pub invariant-loop-i : goal.invariant-loop-i
invariant-loop-i l = take l.i l.body ++ until_space (drop l.i l.body) ≡ until_space l.body
