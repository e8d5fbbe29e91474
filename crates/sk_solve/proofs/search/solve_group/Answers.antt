use Rattle.std.proofs.Common.{◌≡◌}
use Rattle.std.proofs.lemmas.Result.{IfOk-weaker}
use Rattle.sk_krawczyk.specs.Answers.{names_at}
use Rattle.sk_solve.specs.Search.{verdict_over}
use Rattle.sk_solve.specs.Held.{result_by, result_read}
use Rattle.sk_solve.specs.Results.{IsFound}
use Rattle.sk_solve.proofs.search.solve_group.Goals as goal

pub returns-clause-held : goal.returns-clause-held
returns-clause-held g c =
    let at = g.P.AtPoint.seen_at c.args.system.now in
    let found = verdict_over g.row.S (g.P.AtPoint.params_of c.args.system.now) at c.args.start.now in
    IfOk-weaker c.search.result (IsFound (λ x. names_at (at x)) found) (λ r. r ≡ result_by (λ x. names_at (at x)) found) (λ r is. result_read (λ x. names_at (at x)) found r is) c.search.ensures.found
