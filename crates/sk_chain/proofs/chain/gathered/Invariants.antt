use Rattle.std.proofs.Common.{◌≡◌, ◌++◌}
use Rattle.std.specs.Vec.Iter.{into_iter_items}
use Rattle.sk_chain.specs.Made.{all_made}
use Rattle.sk_chain.specs.Outlines.{lists_of}
use Rattle.sk_chain.proofs.chain.gathered.Given as goal

abbrev pub invariant-loop-one : goal.invariant-loop-one
invariant-loop-one g l = record {
  entities : l.entities.items ++ all_made (into_iter_items l.one-iterator) ≡ all_made l.fn.made.items;
  lists : l.lists.items ++ lists_of (into_iter_items l.one-iterator) ≡ lists_of l.fn.made.items;
}
