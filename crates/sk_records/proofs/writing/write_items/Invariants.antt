use Rattle.std.proofs.Common.{◌≡◌, ◌++◌, take, drop, length}
use Rattle.sk_records.specs.Written.{bytes_of}
use Rattle.sk_records.specs.Holding.Held.{blocks_at}
use Rattle.sk_records.proofs.writing.write_items.Given as goal

abbrev pub invariant-loop-item : goal.invariant-loop-item
invariant-loop-item l = record {
  done : l.out.items ++ bytes_of (blocks_at l.text (drop l.item-index l.items)) ≡ l.fn.out.items ++ bytes_of (blocks_at l.text l.items);
  kept : take (length l.fn.out.items) l.out.items ≡ l.fn.out.items;
}
