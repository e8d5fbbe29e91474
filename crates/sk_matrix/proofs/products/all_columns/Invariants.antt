use Rattle.std.proofs.Common.{◌≡◌}
use Rattle.sk_matrix.specs.Cells.{span_cell, listed}
use Rattle.sk_matrix.specs.Sparse.{nonzero_columns}
use Rattle.sk_matrix.proofs.products.all_columns.Given as goal

abbrev pub invariant-loop-row : goal.invariant-loop-row
invariant-loop-row g l = l.rows.items ≡ listed l.row (λ i. nonzero_columns l.m.cols (span_cell l.m.cols l.m.cells i))
