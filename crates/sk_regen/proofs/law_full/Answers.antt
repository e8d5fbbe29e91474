use Rattle.sk_regen.proofs.SoundFull.{full_law}
use Rattle.sk_regen.proofs.law_full.Goals as goal

pub returns : goal.returns
returns c = full_law
