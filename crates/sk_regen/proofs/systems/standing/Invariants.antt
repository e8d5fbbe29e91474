use Rattle.std.proofs.Common.{◌≡◌, ◌++◌, drop, map}
use Rattle.sk_regen.specs.Ground.{stands_among}
use Rattle.sk_regen.proofs.systems.standing.Given as goal

abbrev pub invariant-loop-param : goal.invariant-loop-param
invariant-loop-param g l = l.stand.items ++ map (stands_among l.among) (drop l.param-index l.params) ≡ map (stands_among l.among) l.params
