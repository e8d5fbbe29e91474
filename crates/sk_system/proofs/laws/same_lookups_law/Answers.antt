use Rattle.sk_system.proofs.AlikeSystems.{same_lookups_law}
use Rattle.sk_system.proofs.laws.same_lookups_law.Goals as goal

pub returns : goal.returns
returns c = same_lookups_law
