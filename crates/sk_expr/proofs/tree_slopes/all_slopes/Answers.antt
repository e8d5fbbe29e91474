use Rattle.std.proofs.Common.{sym, ℕ}
use Rattle.sk_expr.specs.Trees.{poly_of}
use Rattle.sk_expr.specs.SpanValue.{span_slope}
use Rattle.sk_num.specs.EachLaws.{each_some-step, each_some-none}
use Rattle.sk_expr.proofs.tree_slopes.all_slopes.Goals as goal

pub returns-in-None-clause-past : goal.returns-in-None-clause-past
returns-in-None-clause-past g c = λ _.
    each_some-none (λ (k : ℕ). span_slope g.row.S c.args.unknowns.now c.args.cosines.now k (poly_of c.args.tree.now)) c.args.columns.now c.loop-column.column-index 0 c.loop-column-test.true (sym c.in-None.ensures)

pub loop-column-preserved : goal.loop-column-preserved
loop-column-preserved g c =
    each_some-step (λ (k : ℕ). span_slope g.row.S c.args.unknowns.now c.args.cosines.now k (poly_of c.args.tree.now)) c.args.columns.now c.loop-column.column-index 0 c.loop-column.slopes.items _ _ c.loop-column-test.true
    c.loop-column.invariant (sym c.in-Some.ensures) c.in_ok-push-in-Some.ensures.items
