use Rattle.std.proofs.Common.{◌≡◌, true, length}
use Rattle.std.specs.List.{All}
use Rattle.sk_records.specs.declared.items.Item.{Item}
use Rattle.sk_records.specs.Holding.Removed.{is_gone}
use Rattle.sk_records.proofs.inserting.gones.Given as goal

abbrev pub invariant-loop-i : goal.invariant-loop-i
invariant-loop-i l = record {
  gone : All (λ (x : Item). is_gone x ≡ true) l.out.items;
  len : length l.out.items ≡ l.i;
}
