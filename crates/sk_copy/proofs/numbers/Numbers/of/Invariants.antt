use Rattle.std.proofs.Common.{◌≡◌, take}
use Rattle.sk_types.specs.Copies.{CopyKey}
use Rattle.sk_copy.specs.Known.{number_at}
use Rattle.sk_copy.specs.Extended.{number_in}
use Rattle.sk_copy.proofs.numbers.Numbers.of.Given as goal

abbrev pub invariant-loop-entry : goal.invariant-loop-entry
invariant-loop-entry l = (c : CopyKey) → number_at l.by_copy.entries c ≡ number_in (take l.entry-index l.list) c
