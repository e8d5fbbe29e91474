use Rattle.std.proofs.Common.{[], map, ap, ◌∙◌}
use Rattle.std.specs.List.{list_any}
use Rattle.sk_types.specs.declared.handle.GroupId.{GroupId}
use Rattle.sk_chain.specs.Dependence.{constraint_leans, group_leans, request_leans}
use Rattle.sk_chain.proofs.Noting.{table_whole}
use Rattle.sk_chain.proofs.dirty.table_of.Goals as goal

pub returns : goal.returns
returns g c =
    let m = c.args.model.now.lists in
    let es = c.args.entities.now in
    table_whole c.args.places.now.keys c.in_ok-table.table.items c.note_groups.new.table.items c.note_requests.new.table.items c.note_constraints.new.table.items
    (λ (later earlier : GroupId). list_any (group_leans es later earlier) m.groups) (λ (later earlier : GroupId). list_any (request_leans es later earlier) m.requests) (λ (later earlier : GroupId). list_any (constraint_leans es later earlier) m.constraints)
    (c.in_ok-table.ensures ∙ ap (map (λ (k : GroupId). [])) c.as_slice.ensures.keys) (rw c.groups.ensures.groups at c.in_ok-note_groups.ensures) (rw c.requests.ensures.requests at c.in_ok-note_requests.ensures) (rw c.constraints.ensures.constraints at c.in_ok-note_constraints.ensures)
