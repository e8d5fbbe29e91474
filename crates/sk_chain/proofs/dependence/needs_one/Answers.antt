use Rattle.sk_chain.proofs.Needed.{filled_any}
use Rattle.sk_chain.proofs.dependence.needs_one.Goals as goal

pub loop-need-init : goal.loop-need-init
loop-need-init g c = rw c.needs-needs.ensures.parts (filled_any _ _ c.needs-needs.ensures.few)
