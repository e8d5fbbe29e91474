use Rattle.std.proofs.Common.{◌≡◌, map, ◌++◌, drop}
use Rattle.sk_num.specs.Ends.{point}
use Rattle.sk_krawczyk.proofs.lists.points.Given as goal

abbrev pub invariant-loop-number : goal.invariant-loop-number
invariant-loop-number g l = l.list.items ++ map point (drop l.number-index l.numbers) ≡ map point l.numbers
