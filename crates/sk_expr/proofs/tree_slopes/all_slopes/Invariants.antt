use Rattle.std.proofs.Common.{◌≡◌, Some, take}
use Rattle.sk_num.specs.Each.{each_some}
use Rattle.sk_expr.specs.Trees.{poly_of}
use Rattle.sk_expr.specs.SpanValue.{span_slope}
use Rattle.sk_expr.proofs.tree_slopes.all_slopes.Given as goal

abbrev pub invariant-loop-column : goal.invariant-loop-column
invariant-loop-column g l = each_some (λ c. span_slope g.row.S l.unknowns l.cosines c (poly_of l.tree)) (take l.column-index l.columns) ≡ Some l.slopes.items
