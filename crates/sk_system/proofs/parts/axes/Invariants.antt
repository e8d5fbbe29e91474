use Rattle.std.proofs.Common.{◌≡◌, ◌++◌, drop, map}
use Rattle.std.specs.List.{filter}
use Rattle.sk_system.specs.ByHandle.{is_normal_by, axes_by}
use Rattle.sk_geom.specs.Views.{source_of}
use Rattle.sk_expr.specs.PartViews.{axes_of}
use Rattle.sk_system.proofs.parts.axes.Given as goal

abbrev pub invariant-loop-id : goal.invariant-loop-id
invariant-loop-id g l = map (axes_of {s = g.row.S}) l.axes.items ++ map (axes_by (source_of {s = g.row.S} l.source)) (filter (is_normal_by (source_of {s = g.row.S} l.source)) (drop l.id-index l.ids)) ≡ map (axes_by (source_of {s = g.row.S} l.source)) (filter (is_normal_by (source_of {s = g.row.S} l.source)) l.ids)
