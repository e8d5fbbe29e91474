use Rattle.sk_regen.proofs.Placing.{ParamsAt}
use Rattle.sk_regen.proofs.numbers.put_params.Given as goal

abbrev pub invariant-loop-value : goal.invariant-loop-value
invariant-loop-value g l = ParamsAt l.values l.initial.params l.params l.value-index
