use Rattle.std.proofs.Common.{◌<◌, length, None, Some, ap, sym, ◌∙◌, map, arith}
use Rattle.sk_matrix.specs.Matrix.{product}
use Rattle.sk_matrix.specs.Sparse.{sum_at}
use Rattle.sk_matrix.specs.Cells.{span_cell}
use Rattle.sk_matrix.specs.TableLaws.{listed-has}
use Rattle.sk_matrix.proofs.ProductLemmas.{put-more, read-at}
use Rattle.sk_matrix.proofs.products.put_row.Goals as goal

pub returns-in-Err : goal.returns-in-Err
returns-in-Err g c = λ p.
    let (k, l, e) = c.in-Err.ensures p in
    listed-has c.args.b.now.cols k (product g.row.S c.args.a.now.cols (span_cell c.args.a.now.cols c.args.a.now.cells) (span_cell c.args.b.now.cols c.args.b.now.cells) c.args.row) None l e

pub loop-column-preserved : goal.loop-column-preserved
loop-column-preserved g c =
    let sums = c.in-Ok.ensures in
    let xs = c.as_slice.result.now in
    let inside : c.loop-column.column < length xs = omega (arith, ap length c.as_slice.ensures, sums.0, c.loop-column-test.true) in
    put-more (product g.row.S c.args.a.now.cols (span_cell c.args.a.now.cols c.args.a.now.cells) (span_cell c.args.b.now.cols c.args.b.now.cells) c.args.row) c.loop-column.column
    (map (λ e. Some e) c.args.cells.now.items) c.loop-column.cells.items c.put_cell.new.cells.items c.index-as_slice-column.result
    c.loop-column.invariant c.in-Ok-put_cell.ensures
    (sums.1 c.loop-column.column c.loop-column-test.true ∙ ap (λ ys. Some (sum_at ys c.loop-column.column)) (sym c.as_slice.ensures) ∙ read-at xs c.loop-column.column c.index-as_slice-column.result inside c.index-as_slice-column.is)
