use Rattle.std.proofs.Common.{◌≡◌, drop}
use Rattle.sk_expr.specs.SparseRows.{span_beside}
use Rattle.sk_krawczyk.proofs.rows.beside.Given as goal

abbrev pub invariant-loop-i : goal.invariant-loop-i
invariant-loop-i g l = span_beside (drop l.i l.row.columns) (drop l.i l.row.spans) l.column ≡ span_beside l.row.columns l.row.spans l.column
