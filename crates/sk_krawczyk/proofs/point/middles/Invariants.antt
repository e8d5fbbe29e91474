use Rattle.std.proofs.Common.{◌≡◌, map, ◌++◌, drop}
use Rattle.sk_num.specs.Ends.{mid}
use Rattle.sk_krawczyk.proofs.point.middles.Given as goal

abbrev pub invariant-loop-span : goal.invariant-loop-span
invariant-loop-span g l = l.list.items ++ map mid (drop l.span-index l.step) ≡ map mid l.step
