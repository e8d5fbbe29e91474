use Rattle.std.proofs.Common.{◌≡◌, ◌∷◌}
use Rattle.sk_types.specs.Lists.{each_below}
use Rattle.sk_entity.specs.Requests.{point_of, curve_of}
use Rattle.sk_entity.proofs.entities.request_entities.Given as goal

abbrev pub invariant-loop-i : goal.invariant-loop-i
invariant-loop-i g l = l.entities.items ≡ curve_of g.row.S l.r l.shape ∷ each_below l.i (point_of g.row.S l.r)
