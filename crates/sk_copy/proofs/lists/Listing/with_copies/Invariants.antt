use Rattle.std.proofs.Common.{◌≡◌, drop}
use Rattle.std.specs.List.{list_any}
use Rattle.sk_types.specs.Copies.{CopyKey, same_copy}
use Rattle.sk_copy.specs.Extended.{extended, greatest, has_copy}
use Rattle.sk_copy.proofs.lists.Listing.with_copies.Given as goal

abbrev pub invariant-loop-key : goal.invariant-loop-key
invariant-loop-key l = record {
  rest : extended (drop l.key-index l.keys) l.entries.items ≡ extended l.keys l.fn.self;
  top : l.top ≡ greatest l.entries.items;
  seen : (c : CopyKey) → list_any (same_copy c) l.seen.keys ≡ has_copy c l.entries.items;
}
