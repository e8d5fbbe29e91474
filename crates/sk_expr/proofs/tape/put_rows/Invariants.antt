use Rattle.std.proofs.Common.{◌≡◌, ◌≤◌, length, map, take}
use Rattle.std.specs.List.{sum_by}
use Rattle.sk_expr.specs.Poly.{nodes_in}
use Rattle.sk_expr.specs.Rows.{row_poly}
use Rattle.sk_expr.specs.Tapes.{tape_of, plain_of}
use Rattle.sk_expr.proofs.tape.put_rows.Given as goal

abbrev pub invariant-loop-row : goal.invariant-loop-row
invariant-loop-row g l = record {
  value : plain_of l.nodes.keys l.roots.items l.starts.items ≡ tape_of (map row_poly (take l.row-index l.rows));
  fits : length l.nodes.keys ≤ sum_by (λ r. nodes_in (row_poly r)) (take l.row-index l.rows);
}
