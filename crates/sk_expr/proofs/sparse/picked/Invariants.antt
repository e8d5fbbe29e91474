use Rattle.std.proofs.Common.{◌≡◌, ◌++◌}
use Rattle.std.specs.Prelude.{drop}
use Rattle.sk_expr.specs.ForwardSlopes.{picked}
use Rattle.sk_expr.proofs.sparse.picked.Given as goal

abbrev pub invariant-loop-column : goal.invariant-loop-column
invariant-loop-column g l = l.picked.items ++ picked l.duals (drop l.column-index l.columns) ≡ picked l.duals l.columns
