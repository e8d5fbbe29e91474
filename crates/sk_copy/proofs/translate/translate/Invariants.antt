use Rattle.std.proofs.Common.{◌≡◌, take}
use Rattle.sk_copy.specs.Known.{number_at}
use Rattle.sk_copy.specs.Copies.{translate}
use Rattle.sk_copy.proofs.translate.translate.Given as goal

abbrev pub invariant-loop-entity : goal.invariant-loop-entity
invariant-loop-entity g l = l.made.items ≡ translate l.group (number_at l.numbers) (take l.entity-index l.source)
