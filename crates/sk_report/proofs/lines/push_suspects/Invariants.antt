use Rattle.std.proofs.Common.{◌≡◌, ◌++◌, take}
use Rattle.std.specs.List.{flat_map}
use Rattle.sk_report.specs.ReportText.{suspect_line}
use Rattle.sk_report.proofs.lines.push_suspects.Given as goal

abbrev pub invariant-loop-suspect : goal.invariant-loop-suspect
invariant-loop-suspect l = l.out.items ≡ l.fn.out.items ++ flat_map suspect_line (take l.suspect-index l.suspects)
