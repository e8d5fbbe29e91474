use Rattle.std.proofs.Common.{◌≡◌, drop}
use Rattle.sk_chain.specs.Made.{made_in}
use Rattle.sk_chain.proofs.made.made_in.Given as goal

abbrev pub invariant-loop-one : goal.invariant-loop-one
invariant-loop-one g l = made_in l.group.0 (drop l.one-index l.made) ≡ made_in l.group.0 l.made
