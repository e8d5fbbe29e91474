use Rattle.sk_geom.specs.RangeLaws.{range_law}
use Rattle.sk_geom.proofs.laws.range_law.Goals as goal

pub returns : goal.returns
returns c = range_law
