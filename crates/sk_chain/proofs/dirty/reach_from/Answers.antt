use Rattle.std.proofs.Common.{refl, sym}
use Rattle.sk_chain.proofs.dirty.reach_from.Goals as goal

pub returns-in_default : goal.returns-in_default
returns-in_default c = rw (sym c.get_index.ensures.key, c.in_default.is) refl

pub returns : goal.returns
returns c = rw (sym c.get_index.ensures.key, c.in-Some.is, sym c.listed_for.ensures) c.in_ok-reach.ensures
