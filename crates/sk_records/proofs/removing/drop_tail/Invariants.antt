use Rattle.std.proofs.Common.{◌≡◌, ◌++◌, take, drop}
use Rattle.std.specs.List.{All}
use Rattle.sk_records.specs.Holding.Held.{ItemWithin}
use Rattle.sk_records.specs.Holding.Removed.{shrink_first}
use Rattle.sk_records.proofs.removing.drop_tail.Given as goal

abbrev pub invariant-loop-item : goal.invariant-loop-item
invariant-loop-item l = record {
  same : take l.item-index l.items ++ shrink_first l.text (drop l.item-index l.items) ≡ shrink_first l.text l.initial.items;
  within : All (ItemWithin l.text) l.items;
}
