use Rattle.std.proofs.Common.{◌≡◌, get_or, None}
use Rattle.std.specs.Prelude.{slice_get}
use Rattle.sk_krawczyk.specs.Box.{at_column}
use Rattle.sk_report.proofs.block.radius_log.Given as goal

abbrev pub invariant-loop-place : goal.invariant-loop-place
invariant-loop-place l = l.log ≡ at_column l.place (λ j. get_or l.solved j 0) (slice_get l.logs) None l.column
