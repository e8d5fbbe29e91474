use Rattle.std.proofs.Common.{refl, map}
use Rattle.sk_num.specs.Ends.{point}
use Rattle.sk_matrix.specs.Cells.{span_cell, number_cell}
use Rattle.sk_matrix.specs.Matrix.{points}
use Rattle.sk_matrix.proofs.ProductLemmas.{products-same, points-cell}
use Rattle.sk_matrix.proofs.products.product.Goals as goal

pub returns-in-Ok : goal.returns-in-Ok
returns-in-Ok g c =
    let a = c.args.a.now in
    let b = c.args.b.now in
    let same = products-same g.row.S a.rows a.cols b.cols (span_cell a.cols (map point a.cells)) (points (number_cell a.cols a.cells)) (span_cell b.cols b.cells) (span_cell b.cols b.cells)
    (points-cell a.rows a.cols a.cells c.requires.a_size) (λ i j u v. refl) in
    let spans = c.in-Ok.ensures in
    rw (← same, ← spans.0, ← spans.1, ← spans.2) c.span_product.ensures
