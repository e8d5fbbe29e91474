use Rattle.std.proofs.Common.{◌≡◌, ◌++◌, drop, map}
use Rattle.sk_system.specs.ByHandle.{flat_by}
use Rattle.sk_geom.specs.Views.{source_of}
use Rattle.sk_expr.specs.PartViews.{pair_of}
use Rattle.sk_system.proofs.parts.points_in.Given as goal

abbrev pub invariant-loop-id : goal.invariant-loop-id
invariant-loop-id g l = map (pair_of) l.points.items ++ map (flat_by (source_of {s = g.row.S} l.source) l.workplane) (drop l.id-index l.ids) ≡ map (flat_by (source_of {s = g.row.S} l.source) l.workplane) l.ids
