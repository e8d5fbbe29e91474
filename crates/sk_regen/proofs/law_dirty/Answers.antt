use Rattle.sk_regen.proofs.Folded.{dirty_law}
use Rattle.sk_regen.proofs.law_dirty.Goals as goal

pub returns : goal.returns
returns c = dirty_law
