use Rattle.std.proofs.Common.{◌≡◌, drop}
use Rattle.sk_chain.specs.Outlines.{first_fault, request_fault}
use Rattle.sk_chain.proofs.named.requests_fault.Given as goal

abbrev pub invariant-loop-request : goal.invariant-loop-request
invariant-loop-request g l = first_fault (request_fault l.places.keys l.entities) (drop l.request-index l.requests) ≡ first_fault (request_fault l.places.keys l.entities) l.requests
