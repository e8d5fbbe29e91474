use Rattle.std.proofs.Common.{◌≡◌, drop}
use Rattle.std.specs.List.{flat_map}
use Rattle.sk_copy.specs.Extended.{extended}
use Rattle.sk_copy.specs.Wanted.{wanted, wanted_as}
use Rattle.sk_copy.proofs.lists.extended.Given as goal

abbrev pub invariant-loop-entity : goal.invariant-loop-entity
invariant-loop-entity g l = extended (flat_map (wanted_as l.group.kind l.group l.source) (drop l.entity-index l.source)) l.listing ≡ extended (wanted l.group l.source) l.list
