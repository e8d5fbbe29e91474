use Rattle.sk_regen.specs.GroupWorks.{is_one_of}
use Rattle.sk_regen.proofs.Steps.{FixedAt}
use Rattle.sk_regen.proofs.parameters.fixed_of.Given as goal

abbrev pub invariant-loop-param : goal.invariant-loop-param
invariant-loop-param g l = FixedAt (is_one_of l.unknowns) l.params l.fixed.items l.param-index
