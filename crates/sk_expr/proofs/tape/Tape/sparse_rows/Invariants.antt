use Rattle.std.proofs.Common.{◌≡◌, Some, take, map}
use Rattle.sk_num.specs.Each.{each_some}
use Rattle.sk_expr.specs.Tapes.{plain_tape, row_tree}
use Rattle.sk_expr.specs.SparseRows.{sparse_slopes, plain_sparse}
use Rattle.sk_expr.proofs.tape.Tape.sparse_rows.Given as goal

abbrev pub invariant-loop-row : goal.invariant-loop-row
invariant-loop-row g l =
    each_some (λ r. sparse_slopes g.row.S l.unknowns l.cosines l.columns (row_tree (plain_tape l.self) r)) (take l.row-index l.rows) ≡ Some (map plain_sparse l.sparse.items)
