use Rattle.std.proofs.Common.{◌≡◌, ◌++◌, drop, map}
use Rattle.sk_system.specs.ConstraintParts.{space_points}
use Rattle.sk_geom.specs.Views.{source_of}
use Rattle.sk_expr.specs.PartViews.{v3_of}
use Rattle.sk_system.proofs.parts.space_points.Given as goal

abbrev pub invariant-loop-id : goal.invariant-loop-id
invariant-loop-id g l = map (v3_of {s = g.row.S}) l.points.items ++ space_points (source_of {s = g.row.S} l.source) (drop l.id-index l.ids) ≡ space_points (source_of {s = g.row.S} l.source) l.ids
