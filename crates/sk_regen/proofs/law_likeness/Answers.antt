use Rattle.sk_regen.proofs.AlikeTexts.{likeness_law}
use Rattle.sk_regen.proofs.law_likeness.Goals as goal

pub returns : goal.returns
returns c = likeness_law
