use Rattle.std.proofs.Common.{◌≡◌, map, take}
use Rattle.sk_report.specs.ReportText.{group_text}
use Rattle.sk_app.specs.Lent.{texts}
use Rattle.sk_app.proofs.work.blocks.Given as goal

abbrev pub invariant-loop-listed : goal.invariant-loop-listed
invariant-loop-listed g l = texts l.pieces.items ≡ map group_text (take l.listed-index l.groups)
