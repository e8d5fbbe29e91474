use Rattle.std.proofs.Common.{◌≡◌, map, ◌++◌, drop}
use Rattle.sk_expr.specs.SparseRows.{span_beside}
use Rattle.sk_krawczyk.proofs.rows.put_row.Given as goal

abbrev pub invariant-loop-column : goal.invariant-loop-column
invariant-loop-column g l = l.cells.items ++ map (span_beside l.row.columns l.row.spans) (drop l.column-index l.columns) ≡ l.initial.cells.items ++ map (span_beside l.row.columns l.row.spans) l.columns
