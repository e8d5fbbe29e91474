use Rattle.sk_regen.proofs.CertifiedGroups.{comes_out_law}
use Rattle.sk_regen.proofs.law_comes_out.Goals as goal

pub returns : goal.returns
returns c = comes_out_law
