use Rattle.std.proofs.Common.{◌≡◌, map, ◌++◌, drop}
use Rattle.sk_num.specs.Ends.{point}
use Rattle.sk_matrix.proofs.products.spans_of.Given as goal

abbrev pub invariant-loop-number : goal.invariant-loop-number
invariant-loop-number g l = l.cells.items ++ map point (drop l.number-index l.m.cells) ≡ map point l.m.cells
