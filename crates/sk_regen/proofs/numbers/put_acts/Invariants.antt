use Rattle.sk_regen.proofs.Placing.{ActsAt}
use Rattle.sk_regen.proofs.numbers.put_acts.Given as goal

abbrev pub invariant-loop-reading : goal.invariant-loop-reading
invariant-loop-reading g l = ActsAt l.readings l.initial.acts l.acts l.reading-index
