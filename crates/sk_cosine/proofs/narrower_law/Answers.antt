use Rattle.sk_cosine.proofs.Falling.{narrower}
use Rattle.sk_cosine.proofs.narrower_law.Goals as goal

pub returns : goal.returns
returns c = narrower
