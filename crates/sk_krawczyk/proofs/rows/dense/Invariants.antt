use Rattle.std.proofs.Common.{◌≡◌, map, ◌++◌, drop}
use Rattle.sk_expr.specs.SparseRows.{plain_sparse}
use Rattle.sk_krawczyk.specs.RowReadings.{dense_cells}
use Rattle.sk_krawczyk.proofs.rows.dense.Given as goal

abbrev pub invariant-loop-row : goal.invariant-loop-row
invariant-loop-row g l = l.cells.items ++ dense_cells (map plain_sparse (drop l.row-index l.rows)) l.columns ≡ dense_cells (map plain_sparse l.rows) l.columns
