use Rattle.std.proofs.Common.{◌≡◌, drop}
use Rattle.sk_copy.specs.Copies.{first_point}
use Rattle.sk_copy.proofs.extrude.first_point.Given as goal

abbrev pub invariant-loop-entity : goal.invariant-loop-entity
invariant-loop-entity g l = first_point (drop l.entity-index l.source) ≡ first_point l.source
