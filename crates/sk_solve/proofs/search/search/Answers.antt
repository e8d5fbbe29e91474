use Rattle.std.proofs.Common.{List, length, Option, ap, ◌∙◌, subst, arith}
use Rattle.std.specs.Prelude.{ℤ}
use Rattle.sk_krawczyk.specs.Answers.{outcome_at, names_at}
use Rattle.sk_solve.specs.declared.result.GroupResult.{GroupResult}
use Rattle.sk_solve.specs.Results.{Decides}
use Rattle.sk_solve.specs.Search.{searched, search}
use Rattle.sk_solve.proofs.Found.{goes-on, stops-at, ends-at}
use Rattle.sk_solve.proofs.search.search.Goals as goal

pub loop-further-init : goal.loop-further-init
unfolding search
loop-further-init g c =
    let params = g.P.AtPoint.params_of c.args.system.now in
    let visit = λ (x : List ℤ). outcome_at g.row.S params (g.P.AtPoint.seen_at c.args.system.now x) in
    (ap (λ (x : List ℤ). length x) c.in_ok-point.ensures.items ∙ c.requires.point, ap (λ (x : List ℤ). searched 40 visit c.args.start.now x) c.in_ok-point.ensures.items)

pub returns-in-Some-clause-found : goal.returns-in-Some-clause-found
returns-in-Some-clause-found g c =
    let params = g.P.AtPoint.params_of c.args.system.now in
    let visit = λ (x : List ℤ). outcome_at g.row.S params (g.P.AtPoint.seen_at c.args.system.now x) in
    let names = λ (x : List ℤ). names_at (g.P.AtPoint.seen_at c.args.system.now x) in
    stops-at g.row.S visit names c.args.start.now c.loop-further.point.items (search visit c.args.start.now) c.loop-further.further c.loop-further.invariant.1 c.decide.new.point.items c.in-Some.found
    (omega (arith, c.loop-further-test.true))
    (subst (λ (o : Option (GroupResult g.row.S)). Decides visit names c.args.start.now c.loop-further.point.items c.decide.new.point.items o) c.in-Some.is c.in_ok-found.ensures.decides)

pub loop-further-preserved : goal.loop-further-preserved
loop-further-preserved g c =
    let params = g.P.AtPoint.params_of c.args.system.now in
    let visit = λ (x : List ℤ). outcome_at g.row.S params (g.P.AtPoint.seen_at c.args.system.now x) in
    let names = λ (x : List ℤ). names_at (g.P.AtPoint.seen_at c.args.system.now x) in (
      c.decide.ensures.size ∙ c.loop-further.invariant.0,
      goes-on g.row.S visit names c.args.start.now c.loop-further.point.items (search visit c.args.start.now) c.loop-further.further c.loop-further.invariant.1 c.decide.new.point.items
          (omega (arith, c.loop-further-test.true))
          (subst (λ (o : Option (GroupResult g.row.S)). Decides visit names c.args.start.now c.loop-further.point.items c.decide.new.point.items o) c.in-None.is c.in_ok-found.ensures.decides),
    )

pub returns-clause-found : goal.returns-clause-found
returns-clause-found g c =
    let params = g.P.AtPoint.params_of c.args.system.now in
    let visit = λ (x : List ℤ). outcome_at g.row.S params (g.P.AtPoint.seen_at c.args.system.now x) in
    let names = λ (x : List ℤ). names_at (g.P.AtPoint.seen_at c.args.system.now x) in
    ends-at g.row.S visit names c.args.start.now c.loop-further.point.items (search visit c.args.start.now) c.loop-further.further c.loop-further.invariant.1 c.decide_last.result (omega (arith, c.loop-further-test.false)) c.decide_last.ensures.found
