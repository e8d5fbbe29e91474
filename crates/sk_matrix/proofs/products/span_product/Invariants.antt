use Rattle.std.proofs.Common.{◌≡◌, Some, map}
use Rattle.sk_matrix.specs.Matrix.{product}
use Rattle.sk_matrix.specs.Cells.{span_cell, table}
use Rattle.sk_matrix.proofs.products.span_product.Given as goal

abbrev pub invariant-loop-row : goal.invariant-loop-row
invariant-loop-row g l = map (λ e. Some e) l.cells.items ≡ table l.row l.b.cols (product g.row.S l.a.cols (span_cell l.a.cols l.a.cells) (span_cell l.b.cols l.b.cells))
