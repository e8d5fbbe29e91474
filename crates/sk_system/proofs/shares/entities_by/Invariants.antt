use Rattle.sk_system.specs.Shares.{entity_group}
use Rattle.sk_system.proofs.Parting.{PartedAt}
use Rattle.sk_system.proofs.shares.entities_by.Given as goal

abbrev pub invariant-loop-entity : goal.invariant-loop-entity
invariant-loop-entity g l = PartedAt (entity_group {s = g.row.S}) l.entities l.lists.items l.entity-index
