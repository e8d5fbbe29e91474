use Rattle.sk_regen.proofs.Folded.{over_law}
use Rattle.sk_regen.proofs.law_over.Goals as goal

pub returns : goal.returns
returns c = over_law
