use Rattle.std.proofs.Common.{◌≡◌, ◌++◌, map, length, take, drop}
use Rattle.sk_records.specs.Holding.Inserted.{shifted}
use Rattle.sk_records.proofs.inserting.shift_list.Given as goal

abbrev pub invariant-loop-i : goal.invariant-loop-i
invariant-loop-i l = record {
  same : take l.i l.list.items ++ map (shifted l.at l.count) (drop l.i l.list.items) ≡ map (shifted l.at l.count) l.initial.list.items;
  rest : drop l.i l.list.items ≡ drop l.i l.initial.list.items;
  len : length l.list.items ≡ length l.initial.list.items;
}
