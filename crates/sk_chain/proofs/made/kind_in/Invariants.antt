use Rattle.std.proofs.Common.{◌≡◌, drop}
use Rattle.sk_types.specs.Lookups.{entity_at}
use Rattle.sk_chain.specs.Made.{all_made}
use Rattle.sk_chain.proofs.made.kind_in.Given as goal

abbrev pub invariant-loop-one : goal.invariant-loop-one
invariant-loop-one g l = entity_at l.id.0 (all_made (drop l.one-index l.made)) ≡ entity_at l.id.0 (all_made l.made)
