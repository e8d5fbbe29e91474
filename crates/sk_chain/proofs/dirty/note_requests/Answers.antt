use Rattle.std.proofs.Common.{refl}
use Rattle.sk_types.specs.declared.handle.GroupId.{GroupId}
use Rattle.sk_chain.specs.Dependence.{request_leans}
use Rattle.sk_chain.proofs.Noting.{left_all, list_done, list_more}
use Rattle.sk_chain.proofs.dirty.note_requests.Goals as goal

pub loop-request-init : goal.loop-request-init
loop-request-init g c = left_all c.args.places.now.keys c.args.table.now.items _

pub loop-request-preserved : goal.loop-request-preserved
loop-request-preserved g c =
    list_more c.args.places.now.keys c.args.table.now.items c.loop-request.table.items _ (λ (later earlier : GroupId). request_leans c.args.entities.now later earlier) c.args.requests.now c.loop-request.request-index _ _ _ c.loop-request-test.true refl c.loop-request.invariant c.in_ok-note_named.ensures

pub returns : goal.returns
returns g c = list_done c.args.places.now.keys c.args.table.now.items _ (λ (later earlier : GroupId). request_leans c.args.entities.now later earlier) c.args.requests.now c.loop-request.request-index _ c.loop-request-test.false c.loop-request.invariant
