use Rattle.sk_system.proofs.SizesAt.{sizes_law}
use Rattle.sk_system.proofs.laws.sizes_law.Goals as goal

pub returns : goal.returns
returns c = sizes_law
