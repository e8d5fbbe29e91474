use Rattle.std.proofs.Common.{◌≡◌, map, ◌++◌, drop}
use Rattle.sk_krawczyk.specs.IntervalTest.{suspects_of}
use Rattle.sk_krawczyk.specs.Answers.{named_suspect, with_name}
use Rattle.sk_krawczyk.proofs.suspects.judged.Given as goal

abbrev pub invariant-loop-i : goal.invariant-loop-i
invariant-loop-i g l = map named_suspect l.list.items ++ map (with_name l.names) (suspects_of (drop l.i l.listed) (drop l.i l.spans)) ≡ map (with_name l.names) (suspects_of l.listed l.spans)
