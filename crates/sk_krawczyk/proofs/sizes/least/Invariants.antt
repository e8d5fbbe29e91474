use Rattle.std.proofs.Common.{◌≡◌, ◌<◌, drop, map, get_or, pos}
use Rattle.std.specs.Prelude.{unsigned_abs}
use Rattle.sk_krawczyk.specs.IntervalTest.{least}
use Rattle.sk_krawczyk.proofs.sizes.least.Given as goal

abbrev pub invariant-loop-j : goal.invariant-loop-j
invariant-loop-j g l = record { value : least l.low (map unsigned_abs (drop l.j l.radii)) ≡ least (unsigned_abs (get_or l.radii 0 (pos 0))) (map unsigned_abs (drop 1 l.radii)); positive : 0 < l.low }
