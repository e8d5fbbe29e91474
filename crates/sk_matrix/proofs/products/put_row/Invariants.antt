use Rattle.std.proofs.Common.{◌≡◌, Some, map, ◌++◌}
use Rattle.sk_matrix.specs.Matrix.{product}
use Rattle.sk_matrix.specs.Cells.{span_cell, listed}
use Rattle.sk_matrix.proofs.products.put_row.Given as goal

abbrev pub invariant-loop-column : goal.invariant-loop-column
invariant-loop-column g l = map (λ e. Some e) l.cells.items ≡ map (λ e. Some e) l.initial.cells.items ++ listed l.column (product g.row.S l.a.cols (span_cell l.a.cols l.a.cells) (span_cell l.b.cols l.b.cells) l.row)
