use Rattle.std.proofs.Common.{◌≡◌, sym, ap, ◌∙◌, ℕ, List, Option, [], Some, false, get_or, length, arith}
use Rattle.std.specs.Prelude.{slice_get}
use Rattle.std.proofs.lemmas.Option.{slice_get-get_or}
use Rattle.sk_expr.specs.SpanValue.{DualEnds}
use Rattle.sk_expr.specs.NodeLaws.{knows-more}
use Rattle.sk_expr.specs.ForwardSlopes.{duals_in, node_duals}
use Rattle.sk_expr.specs.ForwardLaws.{node_duals-is}
use Rattle.sk_expr.proofs.forward.all_duals.Goals as goal

pub loop-i-preserved : goal.loop-i-preserved
loop-i-preserved g c =
    let i = c.loop-i.i in
    let n = c.index-nodes-i.result in
    let listed = λ (k : ℕ). get_or c.args.listed.now k false in
    let at : slice_get c.args.nodes.now i ≡ Some n = slice_get-get_or c.args.nodes.now i n c.loop-i-test.true ∙ ap Some (sym c.index-nodes-i.is) in
    knows-more c.args.nodes.now c.args.marks.now (duals_in g.row.S c.args.unknowns.now c.args.cosines.now listed) [] i c.loop-i.duals.items c.push.new.self.items c.in_ok-own.own c.loop-i.invariant
    (λ m.
    c.in_ok-own.ensures m
    ∙ ap (λ (es : List (List (ℕ × Option DualEnds))). node_duals g.row.S c.args.unknowns.now listed c.args.values.now es n) c.deref.ensures.value
    ∙ node_duals-is g.row.S c.args.unknowns.now c.args.cosines.now listed c.args.nodes.now c.args.marks.now i (length c.args.nodes.now) c.args.values.now c.loop-i.duals.items
    (omega (arith, c.loop-i-test.true)) c.requires.values c.loop-i.invariant n c.requires.earlier c.requires.marks at m)
    c.in_ok-push.ensures.items
