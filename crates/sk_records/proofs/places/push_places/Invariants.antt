use Rattle.std.proofs.Common.{◌≡◌, ◌+◌, ◌++◌, drop}
use Rattle.sk_records.specs.Holding.Places.{places_from}
use Rattle.sk_records.proofs.places.push_places.Given as goal

abbrev pub invariant-loop-i : goal.invariant-loop-i
invariant-loop-i l = l.places.items ++ places_from l.kind (l.base + l.i) (drop l.i l.items) ≡ l.fn.places.items ++ places_from l.kind l.base l.items
