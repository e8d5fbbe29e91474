use Rattle.std.proofs.Common.{None}
use Rattle.sk_matrix.specs.Matrix.{product}
use Rattle.sk_matrix.specs.Cells.{span_cell}
use Rattle.sk_matrix.specs.TableLaws.{table-has}
use Rattle.sk_matrix.proofs.products.span_product.Goals as goal

pub returns-in-Err-put_row : goal.returns-in-Err-put_row
returns-in-Err-put_row g c = λ p.
    table-has c.args.a.now.rows c.args.b.now.cols c.loop-row.row (product g.row.S c.args.a.now.cols (span_cell c.args.a.now.cols c.args.a.now.cells) (span_cell c.args.b.now.cols c.args.b.now.cells)) None c.loop-row-test.true (c.in-Err-put_row.ensures p)
