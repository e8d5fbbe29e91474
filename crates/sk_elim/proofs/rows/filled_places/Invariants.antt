use Rattle.std.proofs.Common.{◌≡◌}
use Rattle.std.specs.List.{filter, range_with_len}
use Rattle.sk_elim.specs.Elimination.{cell}
use Rattle.sk_elim.specs.Filled.{is_filled}
use Rattle.sk_elim.proofs.rows.filled_places.Given as goal

abbrev pub invariant-loop-place : goal.invariant-loop-place
invariant-loop-place g l = l.places.items ≡ filter (λ k. is_filled (cell l.row k)) (range_with_len 0 l.place)
