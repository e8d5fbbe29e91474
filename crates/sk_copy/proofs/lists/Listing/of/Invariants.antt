use Rattle.std.proofs.Common.{◌≡◌, take}
use Rattle.std.specs.List.{list_any}
use Rattle.sk_types.specs.Copies.{CopyKey, same_copy}
use Rattle.sk_copy.specs.Extended.{greatest, has_copy}
use Rattle.sk_copy.proofs.lists.Listing.of.Given as goal

abbrev pub invariant-loop-entry : goal.invariant-loop-entry
invariant-loop-entry l = record {
  entries : l.entries.items ≡ take l.entry-index l.list;
  top : l.top ≡ greatest (take l.entry-index l.list);
  seen : (c : CopyKey) → list_any (same_copy c) l.seen.keys ≡ has_copy c (take l.entry-index l.list);
}
