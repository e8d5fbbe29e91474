use Rattle.std.proofs.Common.{arith, sym, ◌∙◌, subst, lit<}
use Rattle.sk_num.specs.Scale.{IsScale-bounds}
use Rattle.sk_expr.specs.Visits.{system_of}
use Rattle.sk_krawczyk.specs.IntervalTest.{Outcome, interval_test}
use Rattle.sk_krawczyk.specs.Answers.{StopsAs, IsTried, plain_basis}
use Rattle.sk_krawczyk.specs.FitLaws.{testable-fits}
use Rattle.sk_krawczyk.proofs.FaultLemmas.{no-past}
use Rattle.sk_krawczyk.proofs.BasisLemmas.{parts-are, elimination-fits}
use Rattle.sk_krawczyk.proofs.TestLemmas.{outcome-of_basis, tried-sound}
use Rattle.sk_krawczyk.proofs.point.try_point.Goals as goal

pub returns-in-Err-clause-answer : goal.returns-in-Err-clause-answer
returns-in-Err-clause-answer g c = c.fault_of.ensures _ (λ p. absurd (no-past _ c.in-Err.ensures p))

pub returns-in-Err-basis_of-clause-answer : goal.returns-in-Err-basis_of-clause-answer
returns-in-Err-basis_of-clause-answer g c = subst (StopsAs (interval_test g.row.S (system_of c.args.params c.args.v.now))) (sym c.in-Err-basis_of.ensures) tt

pub test_basis-requires : goal.test_basis-requires
test_basis-requires g c =
    let t = c.requires.testable in
    let (slopes, o, there, eliminated, is) = c.in-Ok-eliminated.ensures in
    let b = c.in-Ok-basis_of.ensures in
    let same = b.1 c.args.params o (parts-are c.args.params c.args.v.now t slopes o there eliminated) is in
    let fits = elimination-fits c.args.params c.args.v.now t slopes o there eliminated c.in-Ok-basis_of.basis c.in-Ok-eliminated.elim same b.0 is in
    (lit< tt, (lit< tt, (lit< tt, (lit< tt, (c.requires.scale, (t, (c.in-Ok.ensures, fits)))))))

pub returns-in-Err-test_basis-clause-answer : goal.returns-in-Err-test_basis-clause-answer
returns-in-Err-test_basis-clause-answer g c = c.fault_of-in-Err-test_basis.ensures _ (λ p.
    let t = c.requires.testable in
    let (slopes, o, there, eliminated, is) = c.in-Ok-eliminated.ensures in
    let same = c.in-Ok-basis_of.ensures.1 c.args.params o (parts-are c.args.params c.args.v.now t slopes o there eliminated) is in
    outcome-of_basis g.row.S (system_of c.args.params c.args.v.now) (plain_basis c.in-Ok-basis_of.basis) slopes o there eliminated same ∙ c.in-Err-test_basis.ensures p)

pub returns : goal.returns
returns g c =
    let s = g.row.S in
    let v = system_of c.args.params c.args.v.now in
    let t = c.requires.testable in
    let (slopes, o, there, eliminated, is) = c.in-Ok-eliminated.ensures in
    let same = c.in-Ok-basis_of.ensures.1 c.args.params o (parts-are c.args.params c.args.v.now t slopes o there eliminated) is in
    let e = outcome-of_basis s v (plain_basis c.in-Ok-basis_of.basis) slopes o there eliminated same in
    let answer : IsTried c.args.v.now.rows (interval_test s v) c.in-Ok-test_basis.tried =
    subst (λ (o : Outcome). IsTried c.args.v.now.rows o c.in-Ok-test_basis.tried) (sym e) c.in-Ok-test_basis.ensures in
    record { answer = answer; sound = tried-sound c.args.v.now.rows v c.in-Ok-test_basis.tried (omega (arith, IsScale-bounds c.requires.scale)) (testable-fits c.args.params c.args.v.now t) answer }
