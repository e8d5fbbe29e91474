use Rattle.std.proofs.Common.{◌*◌, ℕ, ap, sym, ◌∙◌, lit<}
use Rattle.sk_matrix.specs.Matrix.{points, product}
use Rattle.sk_matrix.specs.Cells.{number_cell, span_cell}
use Rattle.sk_krawczyk.proofs.RestLemmas.{stored-size, rest-same, rest-none, rest-past}
use Rattle.sk_krawczyk.proofs.rests.left_rest.Goals as goal

pub returns-in-Err : goal.returns-in-Err
returns-in-Err g c = λ e. rest-past g.row.S c.args.y.now.rows c.args.j.now.cols (product g.row.S c.args.y.now.cols (points (number_cell c.args.y.now.cols c.args.y.now.cells)) (span_cell c.args.j.now.cols c.args.j.now.cells)) (c.in-Err.ensures (c.fault_of.ensures e))

pub one_less-requires : goal.one_less-requires
one_less-requires g c =
    let h = c.in-Ok.ensures in
    (lit< tt, (c.requires.scale, (stored-size c.args.y.now.rows c.args.j.now.cols (product g.row.S c.args.y.now.cols (points (number_cell c.args.y.now.cols c.args.y.now.cells)) (span_cell c.args.j.now.cols c.args.j.now.cells)) c.in-Ok.m.cells h.2 ∙ ap (λ (r : ℕ). r * c.args.j.now.cols) (sym h.0) ∙ ap (λ (k : ℕ). c.in-Ok.m.rows * k) (sym h.1), h.0 ∙ c.requires.square ∙ sym h.1)))

pub returns-in-Err-one_less : goal.returns-in-Err-one_less
returns-in-Err-one_less g c = λ e.
    let h = c.in-Ok.ensures in
    rest-none g.row.S c.args.y.now.rows c.args.j.now.cols (product g.row.S c.args.y.now.cols (points (number_cell c.args.y.now.cols c.args.y.now.cells)) (span_cell c.args.j.now.cols c.args.j.now.cells)) c.in-Ok.m.rows c.in-Ok.m.cols c.in-Ok.m.cells h.0 h.1 h.2 c.in-Err-one_less.ensures

pub returns : goal.returns
returns g c =
    let h = c.in-Ok.ensures in
    let k = c.in-Ok-one_less.ensures in (
      k.0 ∙ h.0,
      k.1 ∙ h.1,
      k.2 ∙ stored-size c.args.y.now.rows c.args.j.now.cols (product g.row.S c.args.y.now.cols (points (number_cell c.args.y.now.cols c.args.y.now.cells)) (span_cell c.args.j.now.cols c.args.j.now.cells)) c.in-Ok.m.cells h.2 ∙ ap (λ (r : ℕ). r * c.args.j.now.cols) (sym (k.0 ∙ h.0)) ∙ ap (λ (i : ℕ). c.one_less.new.m.rows * i) (sym (k.1 ∙ h.1)),
      rest-same g.row.S c.args.y.now.rows c.args.j.now.cols (product g.row.S c.args.y.now.cols (points (number_cell c.args.y.now.cols c.args.y.now.cells)) (span_cell c.args.j.now.cols c.args.j.now.cells)) c.in-Ok.m.rows c.in-Ok.m.cols c.in-Ok.m.cells c.one_less.new.m.cells h.0 h.1 h.2 k.3,
    )
