use Rattle.std.proofs.Common.{not, ap}
use Rattle.sk_matrix.specs.Cells.{span_cell}
use Rattle.sk_matrix.specs.Sparse.{is_nonzero}
use Rattle.sk_matrix.proofs.ProductLemmas.{kept-more}
use Rattle.sk_matrix.proofs.products.row_columns.Goals as goal

pub loop-column-preserved : goal.loop-column-preserved
loop-column-preserved g c =
    kept-more (λ k. is_nonzero (span_cell c.args.m.now.cols c.args.m.now.cells c.args.row k)) c.loop-column.column _ c.loop-column.columns.items c.keep_if.new.columns.items c.loop-column.invariant
    (rw c.span_cell.ensures (ap not c.is_nought-wanted.ensures)) c.in-Ok.ensures
