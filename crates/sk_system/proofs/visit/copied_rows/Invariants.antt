use Rattle.std.proofs.Common.{◌≡◌, ◌++◌, drop, map}
use Rattle.sk_expr.specs.Rows.{row_of}
use Rattle.sk_system.proofs.visit.copied_rows.Given as goal

abbrev pub invariant-loop-row : goal.invariant-loop-row
invariant-loop-row g l = map (row_of {s = g.row.S}) l.copies.items ++ map (row_of {s = g.row.S}) (drop l.row-index l.rows) ≡ map (row_of {s = g.row.S}) l.rows
