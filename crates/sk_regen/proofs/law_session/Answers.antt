use Rattle.sk_regen.proofs.SoundModels.{session_law}
use Rattle.sk_regen.proofs.law_session.Goals as goal

pub returns : goal.returns
returns c = session_law
