use Rattle.std.proofs.Common.{◌≡◌, map, take}
use Rattle.sk_copy.specs.Known.{number_at}
use Rattle.sk_copy.specs.Copies.{copy_at}
use Rattle.sk_copy.proofs.numbers.Numbers.copies_at.Given as goal

abbrev pub invariant-loop-source : goal.invariant-loop-source
invariant-loop-source g l = l.copies.items ≡ map (copy_at l.group (number_at l.self) l.copy) (take l.source-index l.named)
