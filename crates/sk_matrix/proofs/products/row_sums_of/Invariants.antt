use Rattle.std.proofs.Common.{◌≡◌, ℕ, ◌<◌, length, Some}
use Rattle.sk_matrix.specs.Cells.{span_cell}
use Rattle.sk_matrix.specs.Matrix.{product}
use Rattle.sk_matrix.specs.Sparse.{sum_at}
use Rattle.sk_matrix.proofs.products.row_sums_of.Given as goal

abbrev pub invariant-loop-inner : goal.invariant-loop-inner
invariant-loop-inner g l = record {
  size : length l.sums ≡ l.b.cols;
  sums : (k : ℕ) → k < l.b.cols → product g.row.S l.inner (span_cell l.a.cols l.a.cells) (span_cell l.b.cols l.b.cells) l.row k ≡ Some (sum_at l.sums k);
}
