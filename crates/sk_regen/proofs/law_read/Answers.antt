use Rattle.sk_regen.proofs.SoundParts.{read_law}
use Rattle.sk_regen.proofs.law_read.Goals as goal

pub returns : goal.returns
returns c = read_law
