use Rattle.std.proofs.Common.{◌<◌, sym, ◌∙◌, arith, subst}
use Rattle.std.specs.Prelude.{get_or, pos, ◌+◌, ◌*◌}
use Rattle.std.specs.List.{All}
use Rattle.sk_num.specs.Ends.{point}
use Rattle.sk_matrix.specs.Cells.{span_cell}
use Rattle.sk_matrix.specs.Sparse.{is_nonzero, sum_at}
use Rattle.sk_matrix.specs.SparseLaws.{nought-is}
use Rattle.sk_matrix.proofs.ProductLemmas.{columns-below, cell-there, product-still, added-past, added-there}
use Rattle.sk_matrix.proofs.products.add_row.Goals as goal

pub returns-then-is_nought-clause-value : goal.returns-then-is_nought-clause-value
returns-then-is_nought-clause-value g c = λ k l.
    let b = c.args.b.now in
    product-still g.row.S (span_cell c.args.a.now.cols c.args.a.now.cells) (span_cell b.cols b.cells) c.args.row c.args.inner c.span_cell-factor.result c.span_cell-factor.ensures
    k (get_or b.cells (c.args.inner * b.cols + k) (point (pos 0))) (sum_at c.args.sums.now k)
    (nought-is c.span_cell-factor.result (sym c.is_nought.ensures ∙ c.if-is_nought.true))
    (cell-there b.rows b.cols b.cells c.requires.b_size c.args.inner k c.requires.inner_in_b l)
    (c.requires.sums k l)

pub add_multiples-requires : goal.add_multiples-requires
add_multiples-requires g c =
    let below = columns-below (λ k. is_nonzero (span_cell c.args.b.now.cols c.args.b.now.cells c.args.inner k)) c.args.b.now.cols in
    (omega arith, (omega arith, (c.requires.scale, (c.requires.b_size, (c.requires.inner_in_b, (subst (All (λ k. k < c.args.b.now.cols)) (sym c.requires.columns) below, c.requires.sums_size))))))

pub returns-in-None-clause-value : goal.returns-in-None-clause-value
returns-in-None-clause-value g c =
    added-past g.row.S (span_cell c.args.a.now.cols c.args.a.now.cells) (span_cell c.args.b.now.cols c.args.b.now.cells) c.args.row c.args.inner c.span_cell-factor.result c.span_cell-factor.ensures
    c.args.b.now.cols c.args.sums.now c.args.columns.now c.requires.columns c.requires.sums_size c.requires.sums c.in-None.ensures.value

pub returns-in-Some-clause-value : goal.returns-in-Some-clause-value
returns-in-Some-clause-value g c =
    added-there g.row.S (span_cell c.args.a.now.cols c.args.a.now.cells) (span_cell c.args.b.now.cols c.args.b.now.cells) c.args.row c.args.inner c.span_cell-factor.result c.span_cell-factor.ensures
    c.args.b.now.cols c.args.sums.now c.add_multiples.new.sums c.args.columns.now c.requires.columns c.requires.sums_size c.requires.sums c.in-Some.ensures.value
