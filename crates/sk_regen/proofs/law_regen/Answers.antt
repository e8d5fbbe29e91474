use Rattle.sk_regen.proofs.SoundModels.{regen_law}
use Rattle.sk_regen.proofs.law_regen.Goals as goal

pub returns : goal.returns
returns c = regen_law
