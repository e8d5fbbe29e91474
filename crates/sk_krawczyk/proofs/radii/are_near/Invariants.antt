use Rattle.std.proofs.Common.{◌≡◌, map, drop}
use Rattle.sk_krawczyk.specs.Box.{radius_of}
use Rattle.sk_krawczyk.specs.IntervalTest.{are_near}
use Rattle.sk_krawczyk.proofs.radii.are_near.Given as goal

abbrev pub invariant-loop-span : goal.invariant-loop-span
invariant-loop-span g l = are_near g.row.S (map radius_of (drop l.span-index l.step)) ≡ are_near g.row.S (map radius_of l.step)
