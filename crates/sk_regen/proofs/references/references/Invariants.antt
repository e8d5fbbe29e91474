use Rattle.std.proofs.Common.{◌≡◌, ◌++◌, map}
use Rattle.std.specs.Vec.Iter.{into_iter_items}
use Rattle.sk_regen.specs.GroupWorks.{reference, params_of}
use Rattle.sk_regen.proofs.references.references.Given as goal

abbrev pub invariant-loop-id : goal.invariant-loop-id
invariant-loop-id g l = l.params.items ++ map (reference g.row.S) (into_iter_items l.id-iterator) ≡ map (reference g.row.S) (params_of l.entities l.group)
