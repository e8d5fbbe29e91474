use Rattle.std.proofs.Common.{◌≡◌, Some, map}
use Rattle.std.proofs.lemmas.Result.{IfOk-weaker}
use Rattle.sk_num.specs.Each.{each_some}
use Rattle.sk_expr.specs.Tapes.{plain_tape, row_tree}
use Rattle.sk_expr.specs.SparseRows.{plain_sparse, sparse_slopes}
use Rattle.sk_expr.specs.EnclosingLaws.{EnclosesRows, rows-enclosed}
use Rattle.sk_expr.proofs.tape.Tape.slopes.Goals as goal

pub returns-clause-encloses : goal.returns-clause-encloses
returns-clause-encloses g c =
    let us = c.args.unknowns.now in
    let cs = c.args.cosines.now in
    let tree = row_tree (plain_tape c.args.self.now) in
    let rows = c.args.rows.now in
    let ks = c.args.columns.now in
    IfOk-weaker c.sparse_rows.result (λ v. each_some (λ r. sparse_slopes g.row.S us cs ks (tree r)) rows ≡ Some (map plain_sparse v.items)) (λ v. EnclosesRows g.row.S us cs tree rows (map plain_sparse v.items))
    (λ v e. rows-enclosed g.row.S us cs tree rows ks (map plain_sparse v.items) e) c.sparse_rows.ensures.value
