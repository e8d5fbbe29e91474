use Rattle.std.proofs.Common.{◌≡◌, ◌++◌, map}
use Rattle.std.specs.Vec.Iter.{into_iter_items}
use Rattle.sk_regen.specs.Ground.{group_works}
use Rattle.sk_regen.specs.Regeneration.{started, started_at}
use Rattle.sk_regen.proofs.solving.started.Given as goal

abbrev pub invariant-loop-id : goal.invariant-loop-id
invariant-loop-id g l =
    l.params.items ++ map (started_at (group_works l.ground.model.now.lists l.ground.outline.now l.group) l.ground.model.now.lists.params l.numbers l.group.id) (into_iter_items l.id-iterator)
    ≡ started (group_works l.ground.model.now.lists l.ground.outline.now l.group) l.ground.model.now.lists.params l.numbers l.group.id
