use Rattle.sk_system.proofs.AlikeSystems.{outlines_law}
use Rattle.sk_system.proofs.laws.outlines_law.Goals as goal

pub returns : goal.returns
returns c = outlines_law
