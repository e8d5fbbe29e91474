use Rattle.std.proofs.Common.{◌≡◌, drop}
use Rattle.sk_model.specs.Remap.{after_spaces}
use Rattle.sk_model.proofs.remap.after_spaces.Given as goal

abbrev pub invariant-loop-i : goal.invariant-loop-i
invariant-loop-i l = after_spaces (drop l.i l.body) ≡ after_spaces l.body
