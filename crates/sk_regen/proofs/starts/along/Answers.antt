use Rattle.std.proofs.Common.{lit≤}
use Rattle.sk_regen.proofs.Starting.{none_rise}
use Rattle.sk_regen.proofs.starts.along.Goals as goal

pub normal_reading-reading-requires : goal.normal_reading-reading-requires
normal_reading-reading-requires g c = (lit≤ tt, (lit≤ tt, (lit≤ tt, (c.requires.scale, record { entities = c.requires.entities; params = c.requires.params; acts = c.requires.acts; unknowns = none_rise; few = lit≤ tt }))))
