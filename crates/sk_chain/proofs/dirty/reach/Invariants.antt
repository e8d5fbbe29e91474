use Rattle.std.proofs.Common.{take}
use Rattle.sk_chain.specs.Leaning.{Reaches}
use Rattle.sk_chain.proofs.dirty.reach.Given as goal

abbrev pub invariant-loop-later : goal.invariant-loop-later
invariant-loop-later l = Reaches l.places.keys (take l.later-index l.list) l.group l.fn.dirty.keys l.dirty.keys
