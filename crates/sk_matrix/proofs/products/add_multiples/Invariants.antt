use Rattle.std.proofs.Common.{◌≡◌, length, drop}
use Rattle.sk_matrix.specs.Cells.{span_cell}
use Rattle.sk_matrix.specs.Sparse.{added}
use Rattle.sk_matrix.proofs.products.add_multiples.Given as goal

abbrev pub invariant-loop-i : goal.invariant-loop-i
invariant-loop-i g l = record {
  size : length l.sums ≡ length l.initial.sums;
  left : added g.row.S l.factor (span_cell l.b.cols l.b.cells l.row) (drop l.i l.columns) l.sums ≡ added g.row.S l.factor (span_cell l.b.cols l.b.cells l.row) l.columns l.initial.sums;
}
