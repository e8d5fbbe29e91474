use Rattle.sk_chain.proofs.Needed.{filled_fault}
use Rattle.sk_chain.proofs.named.needs_fault.Goals as goal

pub loop-need-init : goal.loop-need-init
loop-need-init g c = rw c.needs-needs.ensures.parts (filled_fault _ _ c.needs-needs.ensures.few)
