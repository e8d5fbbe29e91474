use Rattle.std.proofs.Common.{ℕ, refl, subst}
use Rattle.std.specs.Prelude.{IfSome}
use Rattle.sk_expr.specs.Visits.{system_of}
use Rattle.sk_krawczyk.specs.IntervalTest.{interval_test}
use Rattle.sk_krawczyk.specs.Answers.{IsTried, StopsAs, IsOfPass}
use Rattle.sk_krawczyk.proofs.CertifyLemmas.{tried-at, stops-at, sound-at}
use Rattle.sk_krawczyk.proofs.certified.try_at.Goals as goal

pub returns-in-Err-clause-answer : goal.returns-in-Err-clause-answer
returns-in-Err-clause-answer g c =
    let s = g.row.S in
    let params = g.P.AtPoint.params_of c.args.system.now in
    let seen = g.P.AtPoint.seen_at c.args.system.now c.args.point.now in
    let v = c.in-Ok.visited in
    let stopped = subst (λ (k : ℕ). StopsAs (interval_test s (system_of k v)) c.in-Err.e) c.params.ensures c.in-Err.ensures.answer in
    stops-at params v c.in-Ok.ensures.testable seen c.in-Ok.ensures.seen c.in-Err.e stopped

pub returns-clause-answer : goal.returns-clause-answer
returns-clause-answer g c =
    let s = g.row.S in
    let params = g.P.AtPoint.params_of c.args.system.now in
    let seen = g.P.AtPoint.seen_at c.args.system.now c.args.point.now in
    let v = c.in-Ok.visited in
    let t = c.in-Ok-try_point.tried in
    let tried = subst (λ (k : ℕ). IsTried v.rows (interval_test s (system_of k v)) t) c.params.ensures c.in-Ok-try_point.ensures.answer in
    tried-at params v c.in-Ok.ensures.testable seen c.in-Ok.ensures.seen t tried

pub returns-clause-sound : goal.returns-clause-sound
returns-clause-sound g c =
    let s = g.row.S in
    let params = g.P.AtPoint.params_of c.args.system.now in
    let at = g.P.AtPoint.seen_at c.args.system.now in
    let x = c.args.point.now in
    let v = c.in-Ok.visited in
    let t = c.in-Ok-try_point.tried in
    let sound = subst (λ (k : ℕ). IfSome t.certificate (IsOfPass v.rows (system_of k v))) c.params.ensures c.in-Ok-try_point.ensures.sound in
    sound-at params v c.in-Ok.ensures.testable (at x) c.in-Ok.ensures.seen at x refl c.in-Ok.ensures.begins.unknowns t.certificate sound
