use Rattle.std.proofs.Common.{◌≡◌}
use Rattle.std.specs.Prelude.{not}
use Rattle.std.specs.List.{filter, range_with_len}
use Rattle.sk_expr.specs.Columns.{is_among}
use Rattle.sk_krawczyk.proofs.lists.others.Given as goal

abbrev pub invariant-loop-k : goal.invariant-loop-k
invariant-loop-k l = l.list.items ≡ filter (λ c. not (is_among l.listed c)) (range_with_len 0 l.k)
