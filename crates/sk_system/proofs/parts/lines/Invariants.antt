use Rattle.std.proofs.Common.{◌≡◌, ◌++◌, drop, map}
use Rattle.std.specs.Prelude.{not}
use Rattle.std.specs.List.{filter}
use Rattle.sk_system.specs.ByHandle.{is_normal_by}
use Rattle.sk_system.specs.ConstraintParts.{line_by}
use Rattle.sk_geom.specs.Views.{source_of}
use Rattle.sk_expr.specs.PartViews.{line_of}
use Rattle.sk_system.proofs.parts.lines.Given as goal

abbrev pub invariant-loop-id : goal.invariant-loop-id
invariant-loop-id g l = map (line_of {s = g.row.S}) l.lines.items ++ map (line_by (source_of {s = g.row.S} l.source) l.plane) (filter (λ e. not (is_normal_by (source_of {s = g.row.S} l.source) e)) (drop l.id-index l.ids)) ≡ map (line_by (source_of {s = g.row.S} l.source) l.plane) (filter (λ e. not (is_normal_by (source_of {s = g.row.S} l.source) e)) l.ids)
