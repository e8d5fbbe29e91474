use Rattle.std.proofs.Common.{◌≡◌, take}
use Rattle.sk_chain.proofs.lookups.places_of.Given as goal

abbrev pub invariant-loop-group : goal.invariant-loop-group
invariant-loop-group l = l.places.keys ≡ take l.group-index l.order
