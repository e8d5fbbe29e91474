use Rattle.std.proofs.Common.{◌≡◌, ◌++◌, ℕ, List, map, length, take, drop}
use Rattle.sk_records.specs.Holding.Places.{lists_of}
use Rattle.sk_records.specs.Holding.Inserted.{shifted}
use Rattle.sk_records.proofs.inserting.shift_lists.Given as goal

abbrev pub invariant-loop-i : goal.invariant-loop-i
invariant-loop-i l = record {
  same : take l.i (lists_of l.places.items) ++ map (λ (list : List ℕ). map (shifted l.at l.count) list) (drop l.i (lists_of l.places.items)) ≡ map (λ (list : List ℕ). map (shifted l.at l.count) list) (lists_of l.initial.places.items);
  rest : drop l.i (lists_of l.places.items) ≡ drop l.i (lists_of l.initial.places.items);
  len : length l.places.items ≡ length l.initial.places.items;
}
