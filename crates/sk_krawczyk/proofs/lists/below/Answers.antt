use Rattle.sk_krawczyk.proofs.ListLemmas.{range-more}
use Rattle.sk_krawczyk.proofs.lists.below.Goals as goal

pub loop-k-preserved : goal.loop-k-preserved
loop-k-preserved c = range-more c.loop-k.k c.loop-k.list.items _ c.loop-k.invariant c.in_ok-push.ensures.items
