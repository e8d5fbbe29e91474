use Rattle.sk_regen.proofs.SoundModels.{sound_law}
use Rattle.sk_regen.proofs.law_sound.Goals as goal

pub returns : goal.returns
returns c = sound_law
