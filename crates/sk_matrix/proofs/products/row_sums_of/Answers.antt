use Rattle.std.proofs.Common.{◌<◌, ap, ◌∙◌, arith, length}
use Rattle.std.specs.Prelude.{◌+◌}
use Rattle.sk_num.specs.Ends.{span_mul}
use Rattle.sk_matrix.specs.Cells.{span_cell}
use Rattle.sk_matrix.specs.Matrix.{of_both}
use Rattle.sk_matrix.specs.Sparse.{nonzero_columns}
use Rattle.sk_matrix.specs.TableLaws.{length-listed}
use Rattle.sk_matrix.proofs.SumLemmas.{span_sum-none}
use Rattle.sk_matrix.proofs.ProductLemmas.{listed-get}
use Rattle.sk_matrix.proofs.products.row_sums_of.Goals as goal

pub bounds-columns-inner : goal.bounds-columns-inner
bounds-columns-inner g c =
    let b = c.args.b.now in
    let n = ap length c.requires.columns ∙ length-listed b.rows (λ i. nonzero_columns b.cols (span_cell b.cols b.cells i)) in
    omega (arith, n, c.requires.inner, c.loop-inner-test.true)

pub add_row-requires : goal.add_row-requires
add_row-requires g c =
    let b = c.args.b.now in
    let inside : c.loop-inner.inner < b.rows = omega (arith, c.requires.inner, c.loop-inner-test.true) in
    let columns = c.as_slice.ensures ∙ listed-get b.rows c.loop-inner.inner (λ i. nonzero_columns b.cols (span_cell b.cols b.cells i)) c.args.columns.now c.index-columns-inner.result c.requires.columns inside c.index-columns-inner.is in
    (omega arith, (omega arith, (c.requires.scale, (c.requires.a_size, (c.requires.b_size, (c.requires.row_in, (c.loop-inner-test.true, (inside, (columns, (c.loop-inner.invariant.size, c.loop-inner.invariant.sums))))))))))

pub returns-in-None : goal.returns-in-None
returns-in-None g c = λ p.
    let a = c.args.a.now in
    let b = c.args.b.now in
    let (k, l, e) = c.in-None.ensures.value in
    (k, l, span_sum-none (c.loop-inner.inner + 1) a.cols (λ i. of_both (span_mul g.row.S) (span_cell a.cols a.cells c.args.row i) (span_cell b.cols b.cells i k)) (omega (arith, c.loop-inner-test.true)) e)
