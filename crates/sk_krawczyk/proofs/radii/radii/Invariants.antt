use Rattle.std.proofs.Common.{◌≡◌, map, ◌++◌, drop, pos}
use Rattle.sk_krawczyk.specs.Answers.{radius_of_log}
use Rattle.sk_krawczyk.proofs.radii.radii.Given as goal

abbrev pub invariant-loop-i : goal.invariant-loop-i
invariant-loop-i g l = l.list.items ++ map (λ k. pos (radius_of_log g.row.S k)) (drop l.i l.logs) ≡ map (λ k. pos (radius_of_log g.row.S k)) l.logs
