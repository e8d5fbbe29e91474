use Rattle.sk_chain.proofs.Outlining.{outline_law}
use Rattle.sk_chain.proofs.law_outline.Goals as goal

pub returns : goal.returns
returns c = outline_law
