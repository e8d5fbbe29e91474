use Rattle.std.proofs.Common.{◌≡◌, ◌≤◌, ◌^◌, drop, max, map}
use Rattle.std.specs.Prelude.{unsigned_abs}
use Rattle.sk_krawczyk.specs.IntervalTest.{greatest}
use Rattle.sk_krawczyk.proofs.sizes.greatest.Given as goal

abbrev pub invariant-loop-j : goal.invariant-loop-j
invariant-loop-j g l = record { value : max l.top (greatest (map unsigned_abs (drop l.j l.radii))) ≡ greatest (map unsigned_abs l.radii); small : l.top ≤ 2 ^ 34 }
