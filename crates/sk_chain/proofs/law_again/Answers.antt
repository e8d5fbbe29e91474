use Rattle.sk_chain.proofs.Again.{again_law}
use Rattle.sk_chain.proofs.law_again.Goals as goal

pub returns : goal.returns
returns c = again_law
