use Rattle.std.proofs.Common.{◌≡◌, List, Option, None, length, map, ap, sym, ◌∙◌, subst, lit<}
use Rattle.std.specs.List.{All, Contains}
use Rattle.sk_num.specs.Ends.{Ends}
use Rattle.sk_expr.specs.Tapes.{plain_tape, root_trees}
use Rattle.sk_expr.specs.Visits.{system_of}
use Rattle.sk_matrix.specs.Cells.{table}
use Rattle.sk_krawczyk.specs.Box.{Basis}
use Rattle.sk_krawczyk.specs.IntervalTest.{radius_at, over_limit, box_test}
use Rattle.sk_krawczyk.specs.RowReadings.{newton_of}
use Rattle.sk_krawczyk.specs.Answers.{radius_of_log, IsRadiusLog, plain_basis}
use Rattle.sk_krawczyk.proofs.GivenLemmas.{given-fits}
use Rattle.sk_krawczyk.proofs.TestLemmas.{steps-stored, steps-uncomputed, not-computed}
use Rattle.sk_krawczyk.proofs.given.tested.Goals as goal

pub newton_step-requires : goal.newton_step-requires
newton_step-requires g c =
    let s = g.row.S in
    let params = c.args.params in
    let v = c.args.v.now in
    let given = c.args.given.now in
    let basis = c.in-Ok.basis in
    let same = c.in-Ok.ensures.0 in
    let i = given-fits params v given basis c.requires.testable c.requires.given same c.in-Ok.ensures.1 in
    let square = i.inverse_rows ∙ i.square ∙ sym i.inverse_cols in
    (lit< tt, (lit< tt, (lit< tt, (lit< tt, (c.requires.scale, (c.requires.testable.tape, (i.rows_in, (i.inverse, (i.inverse_cols, square)))))))))

pub returns-in-Err-newton_step : goal.returns-in-Err-newton_step
returns-in-Err-newton_step g c = λ e.
    let s = g.row.S in
    let params = c.args.params in
    let v = c.args.v.now in
    let given = c.args.given.now in
    let basis = c.in-Ok.basis in
    let same = c.in-Ok.ensures.0 in
    let i = given-fits params v given basis c.requires.testable c.requires.given same c.in-Ok.ensures.1 in
    let radii = map (radius_of_log s) given.radius_logs in
    let past = subst (λ (cells : List (Option Ends)). Contains cells None) (ap (λ (ps : List Ends). table basis.inverse.rows 1 (newton_of s ps v.cosines (root_trees (plain_tape v.tape)) basis.retained basis.inverse.cols basis.inverse.cells)) c.in-Ok-points.ensures) (c.in-Err-newton_step.ensures e) in
    let uncomputed = steps-uncomputed s (system_of params v) (plain_basis basis) basis.inverse.rows basis.inverse.cols (radius_at radii) i.inverse_rows (i.inverse_cols ∙ sym i.square) past in
    subst (λ (b : Basis). box_test s (system_of params v) b radii ≡ over_limit) same (not-computed s (system_of params v) (plain_basis basis) radii uncomputed)

pub box_test-requires : goal.box_test-requires
box_test-requires g c =
    let s = g.row.S in
    let params = c.args.params in
    let v = c.args.v.now in
    let given = c.args.given.now in
    let basis = c.in-Ok.basis in
    let same = c.in-Ok.ensures.0 in
    let i = given-fits params v given basis c.requires.testable c.requires.given same c.in-Ok.ensures.1 in
    let k = c.requires.given in
    let solved : basis.solved ≡ given.solved = ap (λ (b : Basis). b.solved) same in
    let one_each = ap length c.in_ok-logs.ensures ∙ k.one_each ∙ sym (ap length solved) in
    let logs = subst (All (IsRadiusLog s)) (sym c.in_ok-logs.ensures) k.logs in
    let step = steps-stored s (system_of params v) (plain_basis basis) basis.inverse.rows basis.inverse.cols c.in-Ok-newton_step.step.cells i.inverse_rows (i.inverse_cols ∙ sym i.square)
    (c.in-Ok-newton_step.ensures.2 ∙ (ap (λ (ps : List Ends). table basis.inverse.rows 1 (newton_of s ps v.cosines (root_trees (plain_tape v.tape)) basis.retained basis.inverse.cols basis.inverse.cells)) c.in-Ok-points.ensures)) in
    (lit< tt, (lit< tt, (lit< tt, (lit< tt, (c.requires.scale, (c.requires.testable, (i, (one_each, (logs, step)))))))))
