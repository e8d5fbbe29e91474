use Rattle.std.proofs.Common.{refl, ap, ◌∙◌, ◌++◌, ◌∷◌, []}
use Rattle.sk_system.specs.Shares.{list_at}
use Rattle.sk_system.proofs.Parting.{at-more}
use Rattle.sk_system.proofs.shares.reach.Goals as goal

pub loop-alloc-init : goal.loop-alloc-init
loop-alloc-init g c = λ k. refl

pub loop-alloc-preserved : goal.loop-alloc-preserved
loop-alloc-preserved g c = λ k.
    ap (λ lists. list_at lists k) (c.in_ok-push.ensures.items ∙ ap (λ list. c.loop-alloc.lists.items ++ list ∷ []) (c.of.ensures ∙ c.new.ensures.items))
    ∙ at-more c.loop-alloc.lists.items k ∙ c.loop-alloc.invariant k

pub returns-clause-same : goal.returns-clause-same
returns-clause-same g c = c.loop-alloc.invariant
