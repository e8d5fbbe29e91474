use Rattle.std.proofs.Common.{◌≡◌, ◌≤◌, ◌*◌, ◌^◌, get_or, pos}
use Rattle.std.specs.Prelude.{unsigned_abs}
use Rattle.sk_num.specs.Sums.{total_to}
use Rattle.sk_matrix.specs.Matrix.{mag_or}
use Rattle.sk_matrix.specs.Cells.{span_cell}
use Rattle.sk_matrix.proofs.sums.weighed_sum.Given as goal

abbrev pub invariant-loop-col : goal.invariant-loop-col
invariant-loop-col g l = record {
  value : l.total ≡ total_to l.col (λ k. mag_or (span_cell l.m.cols l.m.cells l.row k) * unsigned_abs (get_or l.radii k (pos 0)));
  small : l.total ≤ l.col * 2 ^ 96;
}
