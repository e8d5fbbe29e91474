use Rattle.std.specs.List.{list_any}
use Rattle.std.proofs.Common.{drop}
use Rattle.sk_types.specs.declared.handle.GroupId.{GroupId}
use Rattle.sk_chain.specs.Dependence.{group_leans}
use Rattle.sk_chain.proofs.Noting.{Left}
use Rattle.sk_chain.proofs.dirty.note_groups.Given as goal

abbrev pub invariant-loop-group : goal.invariant-loop-group
invariant-loop-group g l =
    Left l.places.keys l.fn.table.items l.table.items (λ (g h : GroupId). list_any (group_leans l.entities g h) (drop l.group-index l.groups)) (λ (g h : GroupId). list_any (group_leans l.entities g h) l.groups)
