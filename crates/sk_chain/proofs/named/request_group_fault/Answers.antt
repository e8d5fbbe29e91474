use Rattle.std.proofs.Common.{sym, ◌∙◌}
use Rattle.sk_chain.specs.Outlines.{request_group_fault}
use Rattle.sk_chain.proofs.Faults.{fault_found, fault_none}
use Rattle.sk_chain.proofs.named.request_group_fault.Goals as goal

pub returns-in-Some : goal.returns-in-Some
returns-in-Some c =
    fault_found (request_group_fault c.args.places.now.keys) c.args.requests.now c.loop-request.request-index _ _ c.loop-request-test.true c.loop-request.invariant c.in-Some.fault (sym c.group_fault.ensures ∙ c.in-Some.is)

pub loop-request-preserved : goal.loop-request-preserved
loop-request-preserved c =
    fault_none (request_group_fault c.args.places.now.keys) c.args.requests.now c.loop-request.request-index _ _ c.loop-request-test.true c.loop-request.invariant (sym c.group_fault.ensures ∙ c.in_default.is)
