use Rattle.std.proofs.Common.{◌≡◌, ◌≤◌, ◌*◌, ◌^◌}
use Rattle.sk_num.specs.Sums.{top_to}
use Rattle.sk_matrix.specs.Matrix.{row_sum_plain}
use Rattle.sk_matrix.specs.Cells.{number_cell}
use Rattle.sk_matrix.proofs.sums.row_sums_plain.Given as goal

abbrev pub invariant-loop-row : goal.invariant-loop-row
invariant-loop-row g l = record { value : l.top ≡ top_to l.row (λ i. row_sum_plain l.m.cols (number_cell l.m.cols l.m.cells i)); small : l.top ≤ l.m.cols * 2 ^ 62 }
