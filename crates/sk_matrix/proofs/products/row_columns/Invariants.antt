use Rattle.std.proofs.Common.{◌≡◌}
use Rattle.std.specs.List.{filter, range_with_len}
use Rattle.sk_matrix.specs.Cells.{span_cell}
use Rattle.sk_matrix.specs.Sparse.{is_nonzero}
use Rattle.sk_matrix.proofs.products.row_columns.Given as goal

abbrev pub invariant-loop-column : goal.invariant-loop-column
invariant-loop-column g l = l.columns.items ≡ filter (λ k. is_nonzero (span_cell l.m.cols l.m.cells l.row k)) (range_with_len 0 l.column)
