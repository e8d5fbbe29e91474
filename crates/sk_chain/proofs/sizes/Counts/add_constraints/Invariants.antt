use Rattle.std.proofs.Common.{◌≡◌, drop, length}
use Rattle.sk_chain.specs.Counts.{with_constraints}
use Rattle.sk_chain.proofs.sizes.Counts.add_constraints.Given as goal

abbrev pub invariant-loop-constraint : goal.invariant-loop-constraint
invariant-loop-constraint g l = record {
  counts : with_constraints l.places.keys l.entities (drop l.constraint-index l.constraints) l.self.by_place.items ≡ with_constraints l.places.keys l.entities l.constraints l.fn.self.by_place.items;
  whole : length l.self.by_place.items ≡ length l.places.keys;
}
