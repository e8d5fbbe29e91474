use Rattle.std.proofs.Common.{◌≡◌, drop}
use Rattle.std.specs.Prelude.{◌==◌}
use Rattle.std.specs.List.{find}
use Rattle.sk_types.specs.declared.request.Request.{Request}
use Rattle.sk_chain.proofs.earlier.group_of_request.Given as goal

abbrev pub invariant-loop-request : goal.invariant-loop-request
invariant-loop-request l = find (λ (q : Request). l.id.0 == q.id.0) (drop l.request-index l.requests) ≡ find (λ (q : Request). l.id.0 == q.id.0) l.requests
