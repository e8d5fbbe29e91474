use Rattle.std.proofs.Common.{◌≡◌, ◌-◌, ℕ, length, map, subst, arith}
use Rattle.sk_num.specs.Scale.{IsScale-bounds}
use Rattle.sk_expr.specs.Visits.{system_of}
use Rattle.sk_krawczyk.specs.IntervalTest.{box_test}
use Rattle.sk_krawczyk.specs.Answers.{radius_of_log, given_basis, IsMet}
use Rattle.sk_krawczyk.proofs.GivenLemmas.{forced-few, given-usable}
use Rattle.sk_krawczyk.proofs.TestLemmas.{met-sound}
use Rattle.sk_krawczyk.proofs.given.test_box.Goals as goal

pub count-requires-2 : goal.count-requires-2
count-requires-2 g c = omega (arith, forced-few (length c.args.v.now.unknowns - length c.args.v.now.forced) c.args.v.now c.requires.testable, c.requires.testable.few_unknowns)

pub overflow_sub-params : goal.overflow_sub-params
overflow_sub-params g c = omega (arith, forced-few (length c.args.v.now.unknowns - length c.args.v.now.forced) c.args.v.now c.requires.testable, c.count.ensures, c.count-2.ensures)

pub returns-in-Ok-clause-sound : goal.returns-in-Ok-clause-sound
returns-in-Ok-clause-sound g c =
    let v = c.args.v.now in
    let given = c.args.given.now in
    let params = length v.unknowns - length v.forced in
    let radii = map (radius_of_log g.row.S) given.radius_logs in
    let same : c.count.result - c.count-2.result ≡ params = cc in
    let met = subst (λ (k : ℕ). IsMet v.rows (box_test g.row.S (system_of k v) (given_basis k v given) radii) c.in-Ok.certificate) same c.in-Ok.ensures in
    met-sound v.rows (system_of params v) (given_basis params v given) radii c.in-Ok.certificate (omega (arith, IsScale-bounds c.requires.scale))
    (given-usable params v given c.requires.testable c.requires.given) met
