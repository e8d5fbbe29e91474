use Rattle.std.proofs.Common.{◌≡◌, ◌≤◌}
use Rattle.std.specs.Prelude.{drop}
use Rattle.sk_expr.specs.Columns.{rises_from}
use Rattle.sk_expr.proofs.sparse.rises.Given as goal

abbrev pub invariant-loop-column : goal.invariant-loop-column
invariant-loop-column l = record {
  same : rises_from l.least (drop l.column-index l.columns) ≡ rises_from 0 l.columns;
  small : l.least ≤ 65536;
}
