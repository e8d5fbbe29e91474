use Rattle.std.proofs.Common.{◌≡◌, drop}
use Rattle.sk_model.specs.Typed.{missing_of}
use Rattle.sk_model.proofs.whole.missing_of.Given as goal

abbrev pub invariant-loop-number : goal.invariant-loop-number
invariant-loop-number l = missing_of (drop l.number-index l.numbers) l.requests ≡ missing_of l.numbers l.requests
