use Rattle.std.proofs.Common.{[], false, get_or}
use Rattle.sk_expr.specs.NodeValues.{Knows}
use Rattle.sk_expr.specs.ForwardSlopes.{duals_in}
use Rattle.sk_expr.proofs.forward.all_duals.Given as goal

abbrev pub invariant-loop-i : goal.invariant-loop-i
invariant-loop-i g l = Knows l.nodes l.marks (duals_in g.row.S l.unknowns l.cosines (λ c. get_or l.listed c false)) [] l.i l.duals.items
