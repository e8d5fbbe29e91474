use Rattle.std.proofs.Common.{◌*◌, ◌&&◌, ap, ◌∙◌, ℕ, ℤ, List, Bool, get_or, pos}
use Rattle.sk_matrix.specs.Cells.{span_cell}
use Rattle.std.specs.Prelude.{unsigned_abs}
use Rattle.sk_krawczyk.specs.IntervalTest.{rows_within}
use Rattle.sk_krawczyk.specs.ContractingBox.{left_of, right_of}
use Rattle.sk_krawczyk.proofs.RestLemmas.{whole-stored, not-whole, first-fails, second-fails, within-same, small-same}
use Rattle.sk_krawczyk.proofs.rests.is_contracting.Goals as goal

pub returns-in-Err : goal.returns-in-Err
returns-in-Err g c = λ e.
    let y = c.args.y.now in
    let j = c.args.j.now in
    first-fails _ _ (not-whole y.rows j.cols (left_of g.row.S y.cols j.cols y.cells j.cells) (c.in-Err.ensures e))

pub returns-in-Err-right_rest : goal.returns-in-Err-right_rest
returns-in-Err-right_rest g c = λ e.
    let y = c.args.y.now in
    let j = c.args.j.now in
    second-fails _ _ (not-whole j.rows y.cols (right_of g.row.S y.cols j.cols y.cells j.cells) (c.in-Err-right_rest.ensures e))

pub returns : goal.returns
returns g c =
    let y = c.args.y.now in
    let j = c.args.j.now in
    let a = c.in-Ok.m in
    let b = c.in-Ok-right_rest.m in
    let h = c.in-Ok.ensures in
    let k = c.in-Ok-right_rest.ensures in
    let radius = λ (k : ℕ). unsigned_abs (get_or c.args.radii.now k (pos 0)) in (
      whole-stored y.rows j.cols (left_of g.row.S y.cols j.cols y.cells j.cells) a.cells (h.2 ∙ ap (λ (r : ℕ). r * a.cols) h.0 ∙ ap (λ (n : ℕ). y.rows * n) h.1) h.3,
      whole-stored j.rows y.cols (right_of g.row.S y.cols j.cols y.cells j.cells) b.cells (k.2 ∙ ap (λ (r : ℕ). r * b.cols) k.0 ∙ ap (λ (n : ℕ). j.rows * n) k.1) k.3,
      c.both.ensures ∙ ap (λ (x : Bool). x && c.is_small.result) (c.within_radii.ensures ∙ ap (λ (xs : List ℤ). rows_within g.row.S a.cols (λ k. unsigned_abs (get_or xs k (pos 0))) (span_cell a.cols a.cells)) c.as_slice.ensures ∙ within-same g.row.S j.cols radius (left_of g.row.S y.cols j.cols y.cells j.cells) y.rows a.cols a.cells c.requires.outer h.1 h.3)
          ∙ ap (λ (x : Bool). rows_within g.row.S j.cols radius (left_of g.row.S y.cols j.cols y.cells j.cells) && x) (c.is_small.ensures ∙ small-same g.row.S j.rows y.cols (right_of g.row.S y.cols j.cols y.cells j.cells) b.rows b.cols b.cells k.0 k.1 k.3),
    )
