use Rattle.std.proofs.Common.{◌≡◌, ◌++◌}
use Rattle.sk_dxf.specs.Lines.{vertices}
use Rattle.sk_dxf.proofs.lines.put_vertices.Given as goal

abbrev pub invariant-loop-i : goal.invariant-loop-i
invariant-loop-i g l = l.out.items ≡ l.fn.out.items ++ vertices g.row.S l.i l.points
