use Rattle.std.proofs.Common.{◌≡◌, drop}
use Rattle.sk_chain.specs.Outlines.{first_fault, request_group_fault}
use Rattle.sk_chain.proofs.named.request_group_fault.Given as goal

abbrev pub invariant-loop-request : goal.invariant-loop-request
invariant-loop-request l = first_fault (request_group_fault l.places.keys) (drop l.request-index l.requests) ≡ first_fault (request_group_fault l.places.keys) l.requests
