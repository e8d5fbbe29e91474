use Rattle.sk_chain.proofs.Again.{params_law}
use Rattle.sk_chain.proofs.law_params.Goals as goal

pub returns : goal.returns
returns c = params_law
