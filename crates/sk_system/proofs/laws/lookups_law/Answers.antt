use Rattle.sk_system.proofs.AlikeSystems.{lookups_law}
use Rattle.sk_system.proofs.laws.lookups_law.Goals as goal

pub returns : goal.returns
returns c = lookups_law
