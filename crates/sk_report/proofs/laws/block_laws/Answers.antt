use Rattle.sk_report.specs.StandsFor.{centre-law, line-law}
use Rattle.sk_report.specs.Reached.{reach-law}
use Rattle.sk_report.proofs.laws.block_laws.Goals as goal

pub returns-clause-centre : goal.returns-clause-centre
returns-clause-centre c = centre-law

pub returns-clause-lines : goal.returns-clause-lines
returns-clause-lines c = line-law

pub returns-clause-reach : goal.returns-clause-reach
returns-clause-reach c = reach-law
