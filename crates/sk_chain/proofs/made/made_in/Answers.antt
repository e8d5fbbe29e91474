use Rattle.sk_chain.proofs.Folds.{nothing_rises}
use Rattle.sk_chain.proofs.made.made_in.Goals as goal

pub returns-clause-rise : goal.returns-clause-rise
returns-clause-rise g c = nothing_rises g.row.S
