use Rattle.sk_copy.proofs.Extended.{extended_law}
use Rattle.sk_copy.proofs.law_extended.Goals as goal

pub returns : goal.returns
returns c = extended_law
