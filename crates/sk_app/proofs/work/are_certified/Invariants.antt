use Rattle.std.proofs.Common.{◌≡◌, take, true}
use Rattle.std.specs.List.{list_all}
use Rattle.sk_solve.specs.declared.report.Listed.{Listed}
use Rattle.sk_report.specs.ReportText.{is_certified}
use Rattle.sk_app.proofs.work.are_certified.Given as goal

abbrev pub invariant-loop-listed : goal.invariant-loop-listed
invariant-loop-listed g l = list_all (λ (x : Listed g.row.S). is_certified x.result.verdict) (take l.listed-index l.groups) ≡ true
