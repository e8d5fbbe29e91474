use Rattle.std.proofs.Common.{◌≡◌, ◌*◌, ◌^◌, ◌-◌, get_or, pos}
use Rattle.std.specs.Prelude.{unsigned_abs, nat_le}
use Rattle.sk_num.specs.Sums.{total_to}
use Rattle.sk_matrix.specs.Matrix.{mag_or, all_to}
use Rattle.sk_matrix.specs.Cells.{span_cell}
use Rattle.sk_matrix.proofs.sums.within_radii.Given as goal

abbrev pub invariant-loop-row : goal.invariant-loop-row
invariant-loop-row g l = l.within ≡ all_to l.row (λ j. nat_le (total_to l.m.cols (λ k. mag_or (span_cell l.m.cols l.m.cells j k) * unsigned_abs (get_or l.radii k (pos 0)))) (2 ^ (g.row.S - 1) * unsigned_abs (get_or l.radii j (pos 0))))
