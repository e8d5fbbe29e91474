use Rattle.std.proofs.Common.{◌≡◌, ◌∙◌, subst, lit<, refl, arith, None, List, Option, length, ◌*◌}
use Rattle.std.specs.List.{Contains}
use Rattle.sk_num.specs.Ends.{Ends}
use Rattle.sk_num.specs.EachLaws.{each_some-length}
use Rattle.sk_expr.specs.Tapes.{plain_tape, root_trees}
use Rattle.sk_krawczyk.proofs.NewtonLemmas.{step-table, step-past}
use Rattle.sk_krawczyk.proofs.newton.newton_step.Goals as goal

pub returns-in-Err : goal.returns-in-Err
returns-in-Err g c = λ e.
    let y = c.args.y.now in
    step-past g.row.S c.args.points.now c.args.v.now.cosines (root_trees (plain_tape c.args.v.now.tape)) c.args.retained.now y.rows y.cols y.cells c.requires.y_cols (c.requires.square ∙ c.requires.y_cols) (c.in-Err.ensures e)

pub product-requires : goal.product-requires
product-requires g c =
    let n = each_some-length _ c.args.retained.now c.in-Ok.values c.in-Ok.ensures in
    let size : length c.in-Ok.values ≡ c.args.y.now.cols * 1 = omega (arith, n, c.requires.y_cols) in
    (lit< tt, (lit< tt, (c.requires.scale, (c.requires.y_size, (size, refl)))))

pub returns-in-Err-product : goal.returns-in-Err-product
returns-in-Err-product g c = λ e.
    let y = c.args.y.now in
    subst (λ (t : List (Option Ends)). Contains t None)
    (step-table g.row.S c.args.points.now c.args.v.now.cosines (root_trees (plain_tape c.args.v.now.tape)) c.args.retained.now y.rows y.cols y.cells c.requires.y_cols c.in-Ok.values c.in-Ok.ensures)
    (c.in-Err-product.ensures (c.fault_of.ensures e))

pub returns : goal.returns
returns g c =
    let y = c.args.y.now in
    let k = c.in-Ok-product.ensures in
    (k.0, k.1, k.2 ∙ step-table g.row.S c.args.points.now c.args.v.now.cosines (root_trees (plain_tape c.args.v.now.tape)) c.args.retained.now y.rows y.cols y.cells c.requires.y_cols c.in-Ok.values c.in-Ok.ensures)
