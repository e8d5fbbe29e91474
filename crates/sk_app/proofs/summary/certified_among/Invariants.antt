use Rattle.std.proofs.Common.{◌≡◌, take}
use Rattle.std.specs.List.{count_by}
use Rattle.sk_solve.specs.declared.report.Listed.{Listed}
use Rattle.sk_report.specs.ReportText.{is_certified}
use Rattle.sk_app.proofs.summary.certified_among.Given as goal

abbrev pub invariant-loop-listed : goal.invariant-loop-listed
invariant-loop-listed g l = l.certified ≡ count_by (λ (x : Listed g.row.S). is_certified x.result.verdict) (take l.listed-index l.groups)
