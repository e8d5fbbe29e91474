use Rattle.std.proofs.Common.{◌≡◌, drop}
use Rattle.std.specs.List.{list_any}
use Rattle.sk_model.specs.Typed.{is_reference}
use Rattle.sk_model.proofs.whole.has_reference.Given as goal

abbrev pub invariant-loop-request : goal.invariant-loop-request
invariant-loop-request l = list_any (is_reference l.number) (drop l.request-index l.requests) ≡ list_any (is_reference l.number) l.requests
