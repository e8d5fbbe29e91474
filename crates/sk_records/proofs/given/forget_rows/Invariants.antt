use Rattle.std.proofs.Common.{◌≡◌, ◌++◌, map, length, take, drop}
use Rattle.sk_records.specs.Holding.GivenHeld.{bare_held}
use Rattle.sk_records.proofs.given.forget_rows.Given as goal

abbrev pub invariant-loop-i : goal.invariant-loop-i
invariant-loop-i l = record {
  same : take l.i l.rows.items ++ map bare_held (drop l.i l.rows.items) ≡ map bare_held l.initial.rows.items;
  len : length l.rows.items ≡ length l.initial.rows.items;
}
