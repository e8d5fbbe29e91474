use Rattle.std.proofs.Common.{◌≡◌, drop}
use Rattle.sk_chain.specs.Made.{is_made}
use Rattle.sk_chain.proofs.made.is_made.Given as goal

abbrev pub invariant-loop-one : goal.invariant-loop-one
invariant-loop-one g l = is_made l.group.0 (drop l.one-index l.made) ≡ is_made l.group.0 l.made
