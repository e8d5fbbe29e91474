use Rattle.std.proofs.Common.{◌≡◌, ◌++◌, drop, map}
use Rattle.sk_system.specs.ConstraintParts.{round_by, round_plane}
use Rattle.sk_geom.specs.Views.{source_of}
use Rattle.sk_expr.specs.PartViews.{round_of}
use Rattle.sk_system.proofs.parts.radii.Given as goal

abbrev pub invariant-loop-id : goal.invariant-loop-id
invariant-loop-id g l = map (round_of {s = g.row.S}) l.radii.items ++ map (λ e. round_by (source_of {s = g.row.S} l.source) (round_plane (source_of {s = g.row.S} l.source) l.c e) e) (drop l.id-index l.ids) ≡ map (λ e. round_by (source_of {s = g.row.S} l.source) (round_plane (source_of {s = g.row.S} l.source) l.c e) e) l.ids
