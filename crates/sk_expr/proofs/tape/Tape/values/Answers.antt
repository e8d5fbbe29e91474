use Rattle.std.proofs.Common.{◌≡◌, Some}
use Rattle.std.proofs.lemmas.Result.{IfOk-weaker}
use Rattle.sk_num.specs.Each.{each_some}
use Rattle.sk_expr.specs.SpanValue.{span_value}
use Rattle.sk_expr.specs.Tapes.{plain_tape, row_tree}
use Rattle.sk_expr.specs.Enclosing.{EnclosesValues}
use Rattle.sk_expr.specs.EnclosingLaws.{values-enclosed}
use Rattle.sk_expr.proofs.tape.Tape.values.Goals as goal

pub returns-clause-encloses : goal.returns-clause-encloses
returns-clause-encloses g c =
    let us = c.args.unknowns.now in
    let cs = c.args.cosines.now in
    let tree = row_tree (plain_tape c.args.self.now) in
    let rows = c.args.rows.now in
    IfOk-weaker c.row_values.result (λ v. each_some (λ r. span_value g.row.S us cs (tree r)) rows ≡ Some v.items) (λ v. EnclosesValues g.row.S us cs tree rows v.items)
    (λ v e. values-enclosed g.row.S us cs tree rows v.items e) c.row_values.ensures.value
