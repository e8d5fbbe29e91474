use Rattle.std.proofs.Common.{refl, map, subst, ◌<◌}
use Rattle.sk_num.specs.Ends.{point}
use Rattle.sk_matrix.specs.Cells.{span_cell, number_cell}
use Rattle.sk_matrix.specs.Matrix.{points}
use Rattle.sk_matrix.proofs.ProductLemmas.{products-same, points-cell}
use Rattle.sk_matrix.proofs.products.product_right.Goals as goal

pub returns-in-Ok : goal.returns-in-Ok
returns-in-Ok g c =
    let a = c.args.a.now in
    let b = c.args.b.now in
    let same = products-same g.row.S a.rows a.cols b.cols (span_cell a.cols a.cells) (span_cell a.cols a.cells) (span_cell b.cols (map point b.cells)) (points (number_cell b.cols b.cells))
    (λ i j u v. refl) (λ i j u v. points-cell b.rows b.cols b.cells c.requires.b_size i j (subst (λ n. i < n) c.requires.inner u) v) in
    let spans = c.in-Ok.ensures in
    rw (← same, ← spans.1, ← spans.2) c.span_product.ensures
