use Rattle.std.proofs.Common.{◌≡◌, ℕ, List, map, drop, length, None}
use Rattle.std.specs.Borrow.{Bor}
use Rattle.sk_records.specs.Holding.Found.{noted_from}
use Rattle.sk_records.specs.Holding.Held.{rows_at}
use Rattle.sk_records.proofs.lookup.last_places.Given as goal

abbrev pub invariant-loop-i : goal.invariant-loop-i
invariant-loop-i l = record {
  len : length l.found ≡ length l.keys;
  same : noted_from l.i (rows_at l.text (drop l.i l.rows)) l.keys l.found ≡ noted_from 0 (rows_at l.text l.rows) l.keys (map (λ (k : Bor (List ℕ)). None) l.keys);
}
