use Rattle.std.proofs.Common.{◌≡◌, ℕ, List, [], true, length, map, ap, sym, ◌∙◌, subst, lit<}
use Rattle.std.proofs.lemmas.List.{length-map}
use Rattle.sk_expr.specs.Visits.{system_of}
use Rattle.sk_krawczyk.specs.Box.{radius_of}
use Rattle.sk_krawczyk.specs.IntervalTest.{over_limit, are_near, box_test}
use Rattle.sk_krawczyk.specs.Answers.{radius_of_log, plain_basis, IsMet}
use Rattle.sk_krawczyk.proofs.MeasureLemmas.{step-length}
use Rattle.sk_krawczyk.proofs.TestLemmas.{tested-near}
use Rattle.sk_krawczyk.proofs.point.certified.Goals as goal

pub box_test-requires : goal.box_test-requires
box_test-requires g c =
    let size = sym (length-map c.in-Ok.logs (radius_of_log g.row.S)) ∙ ap length c.in-Ok.ensures.0 ∙ length-map c.args.step.now radius_of
    ∙ step-length g.row.S (system_of c.args.params c.args.v.now) (plain_basis c.args.basis) [] c.args.step.now c.requires.step in
    (lit< tt, (lit< tt, (lit< tt, (lit< tt, (c.requires.scale, (c.requires.testable, (c.requires.basis, (size, (c.in-Ok.ensures.1, c.requires.step)))))))))

pub returns-in-Err-box_test : goal.returns-in-Err-box_test
returns-in-Err-box_test g c = λ p.
    let s = g.row.S in
    let v = system_of c.args.params c.args.v.now in
    let b = plain_basis c.args.basis in
    let near : are_near s (map radius_of c.args.step.now) ≡ true = cc in
    (near, subst (λ (rs : List ℕ). box_test s v b rs ≡ over_limit) c.in-Ok.ensures.0 (c.in-Err-box_test.ensures p))

pub returns-in-Ok-box_test : goal.returns-in-Ok-box_test
returns-in-Ok-box_test g c =
    let s = g.row.S in
    let v = system_of c.args.params c.args.v.now in
    let b = plain_basis c.args.basis in
    let near : are_near s (map radius_of c.args.step.now) ≡ true = cc in
    tested-near c.args.v.now.rows (are_near s (map radius_of c.args.step.now)) (box_test s v b (map radius_of c.args.step.now)) c.in-Ok-box_test.certificate near
    (subst (λ (rs : List ℕ). IsMet c.args.v.now.rows (box_test s v b rs) c.in-Ok-box_test.certificate) c.in-Ok.ensures.0 c.in-Ok-box_test.ensures)
