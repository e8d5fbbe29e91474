use Rattle.sk_regen.specs.GroupWorks.{is_one_of}
use Rattle.sk_regen.proofs.Steps.{PointAt}
use Rattle.sk_regen.proofs.parameters.point_of.Given as goal

abbrev pub invariant-loop-param : goal.invariant-loop-param
invariant-loop-param g l = PointAt (is_one_of l.unknowns) l.params l.point.items l.param-index
