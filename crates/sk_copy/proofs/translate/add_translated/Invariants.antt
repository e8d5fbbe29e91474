use Rattle.std.proofs.Common.{◌≡◌, ◌++◌}
use Rattle.sk_types.specs.Lists.{each_below}
use Rattle.sk_copy.specs.Known.{number_at}
use Rattle.sk_copy.specs.Copies.{translated_by}
use Rattle.sk_copy.proofs.Making.{move_at}
use Rattle.sk_copy.proofs.translate.add_translated.Given as goal

abbrev pub invariant-loop-i : goal.invariant-loop-i
invariant-loop-i g l = l.made.items ≡ l.fn.made.items ++ each_below l.i (λ k. translated_by l.group (number_at l.numbers) l.entity (move_at l.first l.end l.group.two_sided l.group.copies k))
