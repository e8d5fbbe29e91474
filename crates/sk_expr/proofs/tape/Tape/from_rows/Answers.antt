use Rattle.std.proofs.Common.{◌≡◌, ap, sym, ◌∙◌, subst, map, length, arith}
use Rattle.std.proofs.lemmas.List.{length-map}
use Rattle.std.proofs.lemmas.Result.{IfOk-weaker}
use Rattle.sk_expr.specs.Rows.{row_poly}
use Rattle.sk_expr.specs.Tapes.{IsTape, root_trees, tree_at, tape_of, plain_tape}
use Rattle.sk_expr.specs.TapeLaws.{tape_of-is, tape_of-trees}
use Rattle.sk_expr.proofs.tape.Tape.from_rows.Goals as goal

pub returns-clause-form : goal.returns-clause-form
returns-clause-form g c =
    let ps = map row_poly c.args.rows.now in
    IfOk-weaker c.put_rows.result (λ t. plain_tape t ≡ tape_of ps) (λ t. IsTape (plain_tape t)) (λ t e. subst IsTape (sym e) (tape_of-is ps)) c.put_rows.ensures

pub returns-clause-trees : goal.returns-clause-trees
returns-clause-trees g c =
    let ps = map row_poly c.args.rows.now in
    IfOk-weaker c.put_rows.result (λ t. plain_tape t ≡ tape_of ps) (λ t. root_trees (plain_tape t) ≡ ps) (λ t e. ap root_trees e ∙ tape_of-trees ps) c.put_rows.ensures

pub returns-clause-count : goal.returns-clause-count
returns-clause-count g c =
    let ps = map row_poly c.args.rows.now in
    IfOk-weaker c.put_rows.result (λ t. plain_tape t ≡ tape_of ps) (λ t. length t.roots ≡ length c.args.rows.now)
    (λ t e.
    let l = length-map t.roots (tree_at t.nodes) in
    let m = length-map c.args.rows.now row_poly in
    omega (arith, l, m, ap length (ap root_trees e ∙ tape_of-trees ps)))
    c.put_rows.ensures
