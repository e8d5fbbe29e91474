use Rattle.std.proofs.Common.{◌≡◌, map, ◌++◌, drop}
use Rattle.std.specs.List.{filter}
use Rattle.sk_expr.specs.Visits.{pivot_of}
use Rattle.sk_krawczyk.proofs.lists.lengths.Given as goal

abbrev pub invariant-loop-pivot : goal.invariant-loop-pivot
invariant-loop-pivot l = l.list.items ++ map (λ f. f.column) (filter (λ f. f.is_length) (map pivot_of (drop l.pivot-index l.forced))) ≡ map (λ f. f.column) (filter (λ f. f.is_length) (map pivot_of l.forced))
