use Rattle.sk_regen.proofs.SoundModels.{model_law}
use Rattle.sk_regen.proofs.law_model.Goals as goal

pub returns : goal.returns
returns c = model_law
