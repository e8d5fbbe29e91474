use Rattle.std.proofs.Common.{◌≡◌, drop}
use Rattle.sk_dxf.specs.Drawing.{active_in}
use Rattle.sk_dxf.proofs.drawing.active_in.Given as goal

abbrev pub invariant-loop-group : goal.invariant-loop-group
invariant-loop-group g l = active_in {s = g.row.S} l.id.0 (drop l.group-index l.groups) ≡ active_in {s = g.row.S} l.id.0 l.groups
