use Rattle.std.proofs.Common.{◌≡◌, List, drop, length}
use Rattle.sk_types.specs.declared.constraint.Constraint.{Constraint}
use Rattle.sk_types.specs.FixedPoints.{HasFixed}
use Rattle.sk_chain.specs.Counts.{with_entities}
use Rattle.sk_chain.proofs.sizes.Counts.add_entities.Given as goal

abbrev pub invariant-loop-entity : goal.invariant-loop-entity
invariant-loop-entity g l = record {
  counts : (cs : List (Constraint g.row.S)) → HasFixed l.fixed cs → with_entities l.places.keys cs (drop l.entity-index l.entities) l.self.by_place.items ≡ with_entities l.places.keys cs l.entities l.fn.self.by_place.items;
  whole : length l.self.by_place.items ≡ length l.places.keys;
}
