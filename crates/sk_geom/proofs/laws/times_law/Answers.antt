use Rattle.sk_geom.specs.WholeLaws.{whole_units-exact}
use Rattle.sk_geom.proofs.laws.times_law.Goals as goal

pub returns : goal.returns
returns c = whole_units-exact
