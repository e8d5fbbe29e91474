use Rattle.std.proofs.Common.{◌≡◌, drop, length}
use Rattle.sk_chain.specs.Counts.{with_groups}
use Rattle.sk_chain.proofs.sizes.Counts.add_groups.Given as goal

abbrev pub invariant-loop-group : goal.invariant-loop-group
invariant-loop-group g l = record {
  counts : with_groups l.places.keys (drop l.group-index l.groups) l.self.by_place.items ≡ with_groups l.places.keys l.groups l.fn.self.by_place.items;
  whole : length l.self.by_place.items ≡ length l.places.keys;
}
