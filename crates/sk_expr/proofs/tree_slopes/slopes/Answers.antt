use Rattle.std.proofs.Common.{◌≡◌, Some}
use Rattle.std.proofs.lemmas.Result.{IfOk-weaker}
use Rattle.sk_num.specs.Each.{each_some}
use Rattle.sk_expr.specs.Trees.{poly_of}
use Rattle.sk_expr.specs.SpanValue.{span_slope}
use Rattle.sk_expr.specs.Enclosing.{EnclosesSlopes}
use Rattle.sk_expr.specs.EnclosingLaws.{slopes-enclosed}
use Rattle.sk_expr.proofs.tree_slopes.slopes.Goals as goal

pub returns-clause-encloses : goal.returns-clause-encloses
returns-clause-encloses g c =
    let us = c.args.unknowns.now in
    let cs = c.args.cosines.now in
    let t = poly_of c.args.tree.now in
    let ks = c.args.columns.now in
    IfOk-weaker c.all_slopes.result (λ v. each_some (λ k. span_slope g.row.S us cs k t) ks ≡ Some v.items) (λ v. EnclosesSlopes g.row.S us cs t ks v.items)
    (λ v e. slopes-enclosed g.row.S us cs t ks v.items e) c.all_slopes.ensures.value
