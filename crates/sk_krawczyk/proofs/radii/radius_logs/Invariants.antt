use Rattle.std.proofs.Common.{◌≡◌, map, take}
use Rattle.std.specs.List.{All}
use Rattle.sk_krawczyk.specs.Box.{radius_of}
use Rattle.sk_krawczyk.specs.Answers.{radius_of_log, IsRadiusLog}
use Rattle.sk_krawczyk.proofs.radii.radius_logs.Given as goal

abbrev pub invariant-loop-i : goal.invariant-loop-i
invariant-loop-i g l = record { values : map (radius_of_log g.row.S) l.logs.items ≡ map radius_of (take l.i l.step); forms : All (IsRadiusLog g.row.S) l.logs.items }
