use Rattle.std.proofs.Common.{◌≡◌, ◌++◌, take, drop, length}
use Rattle.sk_records.specs.Holding.Found.{noted}
use Rattle.sk_records.proofs.lookup.note.Given as goal

abbrev pub invariant-loop-i : goal.invariant-loop-i
invariant-loop-i l = record {
  len : length l.found ≡ length l.keys;
  same : take l.i l.found ++ noted l.key l.at (drop l.i l.keys) (drop l.i l.found) ≡ noted l.key l.at l.keys l.initial.found;
}
