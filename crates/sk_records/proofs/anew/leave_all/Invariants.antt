use Rattle.std.proofs.Common.{◌≡◌, ◌++◌, length, take, drop, false}
use Rattle.sk_records.specs.Holding.Anew.{left_items}
use Rattle.sk_records.proofs.anew.leave_all.Given as goal

abbrev pub invariant-loop-i : goal.invariant-loop-i
invariant-loop-i l = record {
  same : take l.i l.items ++ left_items l.text l.kind l.after (drop l.i l.items) ≡ left_items l.text l.kind false l.initial.items;
  rest : drop l.i l.items ≡ drop l.i l.initial.items;
  len : length l.items ≡ length l.initial.items;
}
