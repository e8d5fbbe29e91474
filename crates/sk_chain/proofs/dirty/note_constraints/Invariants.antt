use Rattle.std.specs.List.{list_any}
use Rattle.std.proofs.Common.{drop}
use Rattle.sk_types.specs.declared.handle.GroupId.{GroupId}
use Rattle.sk_chain.specs.Dependence.{constraint_leans}
use Rattle.sk_chain.proofs.Noting.{Left}
use Rattle.sk_chain.proofs.dirty.note_constraints.Given as goal

abbrev pub invariant-loop-constraint : goal.invariant-loop-constraint
invariant-loop-constraint g l =
    Left l.places.keys l.fn.table.items l.table.items (λ (g h : GroupId). list_any (constraint_leans l.entities g h) (drop l.constraint-index l.constraints)) (λ (g h : GroupId). list_any (constraint_leans l.entities g h) l.constraints)
