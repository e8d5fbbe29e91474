use Rattle.std.proofs.Common.{◌≡◌, map, ◌++◌, drop}
use Rattle.sk_expr.specs.Visits.{pivot_of}
use Rattle.sk_krawczyk.proofs.lists.pairs.Given as goal

abbrev pub invariant-loop-pivot : goal.invariant-loop-pivot
invariant-loop-pivot l = l.list.items ++ map (λ f. (f.row, f.column)) (map pivot_of (drop l.pivot-index l.forced)) ≡ map (λ f. (f.row, f.column)) (map pivot_of l.forced)
