use Rattle.std.proofs.Common.{◌^◌, ◌-◌, ap, ◌∙◌, ℕ}
use Rattle.std.specs.Prelude.{nat_le}
use Rattle.sk_matrix.specs.Matrix.{row_sum, row_sums}
use Rattle.sk_matrix.specs.Cells.{span_cell}
use Rattle.sk_krawczyk.proofs.RestLemmas.{top-small}
use Rattle.sk_krawczyk.proofs.rests.is_small.Goals as goal

pub returns : goal.returns
returns g c =
    let m = c.args.m.now in
    ap (λ (t : ℕ). nat_le t c.half.result) c.row_sums.ensures.value ∙ ap (λ (h : ℕ). nat_le (row_sums m.rows m.cols (span_cell m.cols m.cells)) h) c.half.ensures.value
    ∙ top-small m.rows (2 ^ (g.row.S - 1)) (λ i. row_sum m.cols (span_cell m.cols m.cells i))
