use Rattle.std.proofs.Common.{◌≡◌, ◌++◌, drop}
use Rattle.std.specs.List.{flat_map}
use Rattle.sk_report.specs.Block.{coordinates}
use Rattle.sk_report.specs.ReportText.{coordinate_line}
use Rattle.sk_report.proofs.block.push_coordinates.Given as goal

-- what is put, and what is left to put
abbrev pub invariant-loop-column : goal.invariant-loop-column
invariant-loop-column g l =
    l.out.items ++ flat_map coordinate_line (coordinates l.params l.certificate l.column (drop l.column l.centre))
    ≡ l.fn.out.items ++ flat_map coordinate_line (coordinates l.params l.certificate 0 l.centre)
