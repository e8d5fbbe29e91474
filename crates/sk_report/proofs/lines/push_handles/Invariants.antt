use Rattle.std.proofs.Common.{◌≡◌, ◌++◌, take, map}
use Rattle.std.specs.List.{flat_map}
use Rattle.sk_report.specs.Block.{param_handle}
use Rattle.sk_report.specs.ReportText.{spaced_handle}
use Rattle.sk_report.proofs.lines.push_handles.Given as goal

abbrev pub invariant-loop-param : goal.invariant-loop-param
invariant-loop-param l = l.out.items ≡ l.fn.out.items ++ flat_map spaced_handle (map param_handle (take l.param-index l.params))
