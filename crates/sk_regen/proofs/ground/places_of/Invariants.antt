use Rattle.std.proofs.Common.{◌≡◌, take, map}
use Rattle.sk_regen.specs.GroupWorks.{request_handle}
use Rattle.sk_regen.proofs.ground.places_of.Given as goal

abbrev pub invariant-loop-request : goal.invariant-loop-request
invariant-loop-request l = l.places.keys ≡ take l.request-index (map request_handle l.requests)
