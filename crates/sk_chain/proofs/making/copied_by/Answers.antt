use Rattle.sk_chain.proofs.Folds.{nothing_rises}
use Rattle.sk_chain.proofs.making.copied_by.Goals as goal

pub returns-in-Space-clause-rise : goal.returns-in-Space-clause-rise
returns-in-Space-clause-rise g c = nothing_rises g.row.S
