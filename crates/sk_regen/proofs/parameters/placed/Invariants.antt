use Rattle.sk_regen.specs.GroupWorks.{is_one_of}
use Rattle.sk_regen.proofs.Steps.{PlacedAt}
use Rattle.sk_regen.proofs.parameters.placed.Given as goal

abbrev pub invariant-loop-param : goal.invariant-loop-param
invariant-loop-param g l = PlacedAt (is_one_of l.unknowns) l.params l.point l.kept.items l.param-index l.values.rest.now
