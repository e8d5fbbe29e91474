use Rattle.std.proofs.Common.{◌++◌, ◌∷◌, []}
use Rattle.sk_regen.specs.GroupWorks.{nought}
use Rattle.sk_regen.proofs.Noughts.{noughts, noughts-gives}
use Rattle.sk_regen.proofs.Pushing.{PushedAt}
use Rattle.sk_regen.proofs.blank.push_noughts.Given as goal

abbrev pub invariant-loop-id : goal.invariant-loop-id
invariant-loop-id g l = PushedAt noughts (λ p. nought p ∷ []) noughts-gives l.ids (l.initial.params.items ++ noughts l.ids) l.params.items l.id-index
