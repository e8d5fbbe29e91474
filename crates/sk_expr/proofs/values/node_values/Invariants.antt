use Rattle.std.proofs.Common.{None}
use Rattle.sk_expr.specs.SpanValue.{value_by}
use Rattle.sk_expr.specs.NodeValues.{Knows}
use Rattle.sk_expr.proofs.values.node_values.Given as goal

abbrev pub invariant-loop-i : goal.invariant-loop-i
invariant-loop-i g l =
    Knows l.nodes l.marks (value_by g.K.OfGrid.of g.K.Kernel.sum_of g.K.Kernel.difference_of g.K.Kernel.product_of l.unknowns l.cosines) None l.i l.values.items
