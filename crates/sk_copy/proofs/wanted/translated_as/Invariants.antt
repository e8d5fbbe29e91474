use Rattle.std.proofs.Common.{◌≡◌}
use Rattle.sk_types.specs.Lists.{each_below}
use Rattle.sk_copy.proofs.Making.{move_at}
use Rattle.sk_copy.proofs.wanted.translated_as.Given as goal

abbrev pub invariant-loop-i : goal.invariant-loop-i
invariant-loop-i g l = l.keys.items ≡ each_below l.i (λ k. (l.entity.id.0, (move_at l.first l.end l.group.two_sided l.group.copies k).0))
