use Rattle.sk_regen.proofs.Folded.{fold_again_law}
use Rattle.sk_regen.proofs.law_fold_again.Goals as goal

pub returns : goal.returns
returns c = fold_again_law
