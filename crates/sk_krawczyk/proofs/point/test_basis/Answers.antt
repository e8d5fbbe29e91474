use Rattle.std.proofs.Common.{List, None, ap, sym, ◌∙◌, subst, refl, lit<}
use Rattle.std.specs.List.{Contains}
use Rattle.sk_num.specs.Ends.{Ends}
use Rattle.sk_expr.specs.Tapes.{plain_tape, root_trees}
use Rattle.sk_expr.specs.Visits.{system_of}
use Rattle.sk_matrix.specs.Cells.{table}
use Rattle.sk_krawczyk.specs.IntervalTest.{step_test}
use Rattle.sk_krawczyk.specs.RowReadings.{newton_of}
use Rattle.sk_krawczyk.specs.Answers.{plain_basis}
use Rattle.sk_krawczyk.proofs.TestLemmas.{steps-stored, steps-past, step-past, tried-from}
use Rattle.sk_krawczyk.proofs.point.test_basis.Goals as goal

pub returns-in-Err : goal.returns-in-Err
returns-in-Err g c = λ e.
    let s = g.row.S in
    let v = system_of c.args.params c.args.v.now in
    let b = plain_basis c.args.basis in
    let y = c.args.basis.inverse in
    let i = c.requires.basis in
    ap (step_test s v b) (steps-past s v b y.rows y.cols i.inverse_rows (i.inverse_cols ∙ sym i.square)
    (subst (λ (ps : List Ends). Contains (table y.rows 1 (newton_of s ps c.args.v.now.cosines (root_trees (plain_tape c.args.v.now.tape)) c.args.basis.retained y.cols y.cells)) None) c.requires.points (c.in-Err.ensures e)))

pub certified-requires : goal.certified-requires
certified-requires g c =
    let s = g.row.S in
    let v = system_of c.args.params c.args.v.now in
    let b = plain_basis c.args.basis in
    let y = c.args.basis.inverse in
    let i = c.requires.basis in
    let n = steps-stored s v b y.rows y.cols c.in-Ok.step.cells i.inverse_rows (i.inverse_cols ∙ sym i.square)
    (c.in-Ok.ensures.2 ∙ ap (λ (ps : List Ends). table y.rows 1 (newton_of s ps c.args.v.now.cosines (root_trees (plain_tape c.args.v.now.tape)) c.args.basis.retained y.cols y.cells)) c.requires.points) in
    (lit< tt, (lit< tt, (lit< tt, (lit< tt, (c.requires.scale, (c.requires.testable, (i, n)))))))

pub returns-in-Err-certified : goal.returns-in-Err-certified
returns-in-Err-certified g c = λ e.
    let s = g.row.S in
    let v = system_of c.args.params c.args.v.now in
    let b = plain_basis c.args.basis in
    let y = c.args.basis.inverse in
    let i = c.requires.basis in
    let n = steps-stored s v b y.rows y.cols c.in-Ok.step.cells i.inverse_rows (i.inverse_cols ∙ sym i.square)
    (c.in-Ok.ensures.2 ∙ ap (λ (ps : List Ends). table y.rows 1 (newton_of s ps c.args.v.now.cosines (root_trees (plain_tape c.args.v.now.tape)) c.args.basis.retained y.cols y.cells)) c.requires.points) in
    let h = c.in-Err-certified.ensures e in
    step-past s v b c.in-Ok.step.cells n h.0 h.1

pub returns : goal.returns
returns g c =
    let s = g.row.S in
    let v = system_of c.args.params c.args.v.now in
    let b = plain_basis c.args.basis in
    let y = c.args.basis.inverse in
    let i = c.requires.basis in
    let n = steps-stored s v b y.rows y.cols c.in-Ok.step.cells i.inverse_rows (i.inverse_cols ∙ sym i.square)
    (c.in-Ok.ensures.2 ∙ ap (λ (ps : List Ends). table y.rows 1 (newton_of s ps c.args.v.now.cosines (root_trees (plain_tape c.args.v.now.tape)) c.args.basis.retained y.cols y.cells)) c.requires.points) in
    tried-from c.args.v.now.rows v b c.in-Ok.step.cells c.in-Ok-certified.certificate n c.in-Ok-certified.ensures _ c.in_ok-solved.ensures c.in-Ok-middles.ensures refl
