use Rattle.std.proofs.Common.{◌≡◌, drop}
use Rattle.sk_model.specs.Typed.{stray_request}
use Rattle.sk_model.proofs.whole.stray_request.Given as goal

abbrev pub invariant-loop-request : goal.invariant-loop-request
invariant-loop-request l = stray_request (drop l.request-index l.requests) ≡ stray_request l.requests
