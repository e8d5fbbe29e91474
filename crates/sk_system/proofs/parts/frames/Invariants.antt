use Rattle.std.proofs.Common.{◌≡◌, ◌++◌, drop, map}
use Rattle.sk_system.specs.ByHandle.{frame_by}
use Rattle.sk_geom.specs.Views.{source_of}
use Rattle.sk_expr.specs.PartViews.{frame_of}
use Rattle.sk_system.proofs.parts.frames.Given as goal

abbrev pub invariant-loop-id : goal.invariant-loop-id
invariant-loop-id g l = map (frame_of {s = g.row.S}) l.frames.items ++ map (frame_by (source_of {s = g.row.S} l.source)) (drop l.id-index l.ids) ≡ map (frame_by (source_of {s = g.row.S} l.source)) l.ids
