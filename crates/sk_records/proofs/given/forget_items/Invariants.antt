use Rattle.std.proofs.Common.{◌≡◌, ℕ, List, length, take, drop}
use Rattle.std.specs.List.{All}
use Rattle.sk_records.specs.Written.{bare}
use Rattle.sk_records.specs.Holding.Held.{blocks_at, ItemWithin}
use Rattle.sk_records.proofs.given.forget_items.Given as goal

abbrev pub invariant-loop-i : goal.invariant-loop-i
invariant-loop-i l = record {
  blocks : (text : List ℕ) → blocks_at text (take l.i l.items.items) ≡ bare (blocks_at text (take l.i l.initial.items.items));
  within : (text : List ℕ) → All (ItemWithin text) l.initial.items.items → All (ItemWithin text) l.items.items;
  rest : drop l.i l.items.items ≡ drop l.i l.initial.items.items;
  len : length l.items.items ≡ length l.initial.items.items;
}
