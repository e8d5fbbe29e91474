use Rattle.std.proofs.Common.{lit≤}
use Rattle.sk_regen.proofs.Ready.{most}
use Rattle.sk_regen.proofs.solving.started.Goals as goal

pub params_in-requires : goal.params_in-requires
params_in-requires g c = (lit≤ tt, (lit≤ tt, (c.requires.places, (c.requires.ground.outline.own_fit, most _ _ _ _ c.requires.ground))))
