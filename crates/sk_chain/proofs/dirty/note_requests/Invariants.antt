use Rattle.std.specs.List.{list_any}
use Rattle.std.proofs.Common.{drop}
use Rattle.sk_types.specs.declared.handle.GroupId.{GroupId}
use Rattle.sk_chain.specs.Dependence.{request_leans}
use Rattle.sk_chain.proofs.Noting.{Left}
use Rattle.sk_chain.proofs.dirty.note_requests.Given as goal

abbrev pub invariant-loop-request : goal.invariant-loop-request
invariant-loop-request g l =
    Left l.places.keys l.fn.table.items l.table.items (λ (g h : GroupId). list_any (request_leans l.entities g h) (drop l.request-index l.requests)) (λ (g h : GroupId). list_any (request_leans l.entities g h) l.requests)
