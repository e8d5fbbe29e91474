use Rattle.std.proofs.Common.{◌≡◌, ◌-◌, length, List}
use Rattle.std.specs.Prelude.{ℤ}
use Rattle.sk_krawczyk.specs.Answers.{outcome_at}
use Rattle.sk_solve.specs.Search.{searched, search}
use Rattle.sk_solve.proofs.search.search.Given as goal

abbrev pub invariant-loop-further : goal.invariant-loop-further
invariant-loop-further g l =
    let params = g.P.AtPoint.params_of l.system in
    let visit = λ (x : List ℤ). outcome_at g.row.S params (g.P.AtPoint.seen_at l.system x) in
    (length l.point.items ≡ params) × (searched (40 - l.further) visit l.start l.point.items ≡ search visit l.start)
