use Rattle.std.proofs.Common.{◌≡◌, drop}
use Rattle.std.specs.List.{list_any}
use Rattle.sk_chain.specs.Dependence.{request_leans}
use Rattle.sk_chain.proofs.dependence.requests_lean.Given as goal

abbrev pub invariant-loop-request : goal.invariant-loop-request
invariant-loop-request g l = list_any (request_leans l.entities l.later l.earlier) (drop l.request-index l.requests) ≡ list_any (request_leans l.entities l.later l.earlier) l.requests
