use Rattle.std.proofs.Common.{◌≡◌, ◌*◌, ◌<◌, ℕ, ap, sym, ◌∙◌, subst, lit<, arith, length, List, Option, None, get_or, pos, map}
use Rattle.std.specs.Prelude.{unsigned_abs}
use Rattle.std.specs.List.{All, Contains, list_all}
use Rattle.sk_krawczyk.specs.StoredBox.{are_ends_in}
use Rattle.sk_num.specs.Ends.{Ends}
use Rattle.sk_expr.specs.Visits.{system_of}
use Rattle.sk_krawczyk.specs.Box.{square_system}
use Rattle.sk_krawczyk.specs.IntervalTest.{radius_at, rows_within, rows_small, are_lengths_positive}
use Rattle.sk_krawczyk.specs.CertifiedLaws.{lengths-inside, columns-in}
use Rattle.sk_krawczyk.specs.FitLaws.{testable-fits}
use Rattle.sk_krawczyk.specs.ContractingBox.{left_of, right_of}
use Rattle.sk_krawczyk.specs.Answers.{plain_basis}
use Rattle.sk_krawczyk.proofs.RestLemmas.{stored-size}
use Rattle.sk_krawczyk.proofs.MeasureLemmas.{box_from-length, ends-past, slopes-past, rests-past, slopes-stored, box-stored, left-whole, right-whole, left-small, right-small, both-fail, met-is, near-all, step-small, step-length, lengths-positive, computed-all}
use Rattle.sk_krawczyk.proofs.boxes.measure.Goals as goal

pub returns-in-Err : goal.returns-in-Err
returns-in-Err g c = λ e. ends-past g.row.S (system_of c.args.params c.args.v.now) (plain_basis c.args.basis.now) c.args.radii.now c.args.step.now c.requires.step (c.in-Err.ensures e)

pub returns-in-Err-slopes_over : goal.returns-in-Err-slopes_over
returns-in-Err-slopes_over g c = λ e.
    let s = g.row.S in
    let v = system_of c.args.params c.args.v.now in
    let b = plain_basis c.args.basis.now in
    let stored = slopes-stored s v b c.args.radii.now c.in-Ok.over c.in-Ok.ensures.0 (sym c.requires.basis.square) in
    slopes-past s v b c.args.radii.now c.args.step.now c.requires.step (subst (λ (t : List (Option Ends)). Contains t None) stored (c.in-Err-slopes_over.ensures e))

pub slopes_over-requires : goal.slopes_over-requires
slopes_over-requires g c =
    let i = c.requires.basis in
    let long : length c.in-Ok.over ≡ length c.args.v.now.unknowns = ap length c.in-Ok.ensures.0 ∙ box_from-length c.args.basis.now.solved c.args.radii.now 0 c.args.v.now.unknowns in
    let columns_in = subst (λ (n : ℕ). All (λ k. k < n) c.args.basis.now.solved) (sym long) i.columns_in in
    let few_columns : length c.args.basis.now.solved < 65536 = omega (arith, i.few) in
    let few_rows : length c.args.basis.now.retained < 65536 = omega (arith, i.few, i.square) in
    (lit< tt, (lit< tt, (lit< tt, (c.requires.scale, (c.requires.testable.tape, (i.rows_in, (columns_in, (few_rows, few_columns))))))))

pub is_contracting-requires : goal.is_contracting-requires
is_contracting-requires g c =
    let j = c.in-Ok-slopes_over.slopes in
    let h = c.in-Ok-slopes_over.ensures in
    let i = c.requires.basis in
    let j_size = stored-size _ _ _ j.cells h.2 ∙ ap (λ (k : ℕ). k * length c.args.basis.now.solved) (sym h.0) ∙ ap (λ (k : ℕ). j.rows * k) (sym h.1) in
    let inner = i.inverse_cols ∙ sym h.0 in
    let outer = i.inverse_rows ∙ sym h.1 in
    let square = h.0 ∙ sym i.square ∙ sym h.1 in
    let radii_size = c.requires.one_each ∙ sym h.1 in
    (lit< tt, (lit< tt, (lit< tt, (c.requires.scale, (i.inverse, (j_size, (inner, (outer, (square, (radii_size, c.requires.small))))))))))

pub is_step_small-requires : goal.is_step_small-requires
is_step_small-requires g c =
    let size = c.requires.one_each ∙ sym (step-length g.row.S (system_of c.args.params c.args.v.now) (plain_basis c.args.basis.now) c.args.radii.now c.args.step.now c.requires.step) in
    (lit< tt, (lit< tt, size))

pub are_lengths_positive-are_lengths-requires : goal.are_lengths_positive-are_lengths-requires
are_lengths_positive-are_lengths-requires g c =
    let v = c.args.v.now in
    let n = length v.unknowns in
    let forced = (system_of c.args.params v).forced in
    let inside = lengths-inside n forced (columns-in n forced (testable-fits c.args.params v c.requires.testable).columns_apart) in
    (lit< tt, (c.requires.one_each, subst (All (λ k. k < n)) (sym c.in-Ok-lengths.ensures) inside))

pub returns-in-Err-is_contracting : goal.returns-in-Err-is_contracting
returns-in-Err-is_contracting g c = λ e.
    let s = g.row.S in
    let v = system_of c.args.params c.args.v.now in
    let b = plain_basis c.args.basis.now in
    let j = c.in-Ok-slopes_over.slopes in
    let h = c.in-Ok-slopes_over.ensures in
    let i = c.requires.basis in
    let rows : j.rows ≡ length c.args.basis.now.solved = h.0 ∙ sym i.square in
    let stored = h.2 ∙ slopes-stored s v b c.args.radii.now c.in-Ok.over c.in-Ok.ensures.0 (sym i.square) in
    rests-past s v b c.args.radii.now c.args.step.now c.requires.step
    (both-fail _ _ _ _ (left-whole s v b c.args.radii.now j.cells stored c.args.basis.now.inverse.rows c.args.basis.now.inverse.cols j.cols i.inverse_rows (i.inverse_cols ∙ sym i.square) h.1)
    (right-whole s v b c.args.radii.now j.cells stored j.rows c.args.basis.now.inverse.cols j.cols rows (i.inverse_cols ∙ sym i.square) h.1)
    (c.in-Err-is_contracting.ensures e))

pub returns : goal.returns
returns g c =
    let s = g.row.S in
    let v = system_of c.args.params c.args.v.now in
    let b = plain_basis c.args.basis.now in
    let radii = c.args.radii.now in
    let j = c.in-Ok-slopes_over.slopes in
    let h = c.in-Ok-slopes_over.ensures in
    let i = c.requires.basis in
    let y = c.args.basis.now.inverse in
    let rows : j.rows ≡ length c.args.basis.now.solved = h.0 ∙ sym i.square in
    let cols = i.inverse_cols ∙ sym i.square in
    let stored = h.2 ∙ slopes-stored s v b radii c.in-Ok.over c.in-Ok.ensures.0 (sym i.square) in
    let k = c.in-Ok-is_contracting.ensures in
    let lw = left-whole s v b radii j.cells stored y.rows y.cols j.cols i.inverse_rows cols h.1 in
    let rw' = right-whole s v b radii j.cells stored j.rows y.cols j.cols rows cols h.1 in
    let ends = ap (λ es. list_all are_ends_in es) (sym c.in-Ok.ensures.0) ∙ c.in-Ok.ensures.1 in (
      computed-all s v b radii c.args.step.now c.requires.step j.cells ends stored (sym lw ∙ k.0) (sym rw' ∙ k.1),
      c.in-Ok.ensures.0 ∙ box-stored s v b radii,
      rows,
      h.1,
      stored,
      met-is _ _ _ _ _ (rows_within s j.cols (λ k. unsigned_abs (get_or radii k (pos 0))) (left_of s y.cols j.cols y.cells j.cells)) (rows_small s j.rows y.cols (right_of s y.cols j.cols y.cells j.cells)) _ _ _ _ _
          c.both.ensures c.both-is_inside.ensures k.2 (c.is_step_small.ensures ∙ step-small s v b radii c.args.step.now c.requires.step)
          (left-small s v b radii j.cells stored y.cols j.cols cols h.1) (right-small s v b radii j.cells stored j.rows y.cols j.cols rows cols h.1)
          (c.are_lengths_positive-are_lengths.ensures ∙ lengths-positive s v b radii c.args.step.now c.requires.step c.in-Ok-lengths.lengths ∙ ap (are_lengths_positive (square_system v b) (radius_at (map unsigned_abs radii))) c.in-Ok-lengths.ensures)
          (near-all s radii c.requires.small),
    )
