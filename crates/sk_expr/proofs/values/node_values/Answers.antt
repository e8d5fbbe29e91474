use Rattle.std.proofs.Common.{◌≡◌, sym, ap, ◌∙◌, Some, None, List, Option}
use Rattle.std.specs.Prelude.{slice_get}
use Rattle.std.proofs.lemmas.Option.{slice_get-get_or}
use Rattle.sk_expr.specs.SpanValue.{value_by}
use Rattle.sk_expr.specs.NodeValues.{node_value}
use Rattle.sk_expr.specs.NodeLaws.{knows-more, node_value-is}
use Rattle.sk_expr.proofs.values.node_values.Goals as goal

pub loop-i-preserved : goal.loop-i-preserved
loop-i-preserved g c =
    let i = c.loop-i.i in
    let n = c.index-nodes-i.result in
    let at : slice_get c.args.nodes.now i ≡ Some n = slice_get-get_or c.args.nodes.now i n c.loop-i-test.true ∙ ap Some (sym c.index-nodes-i.is) in
    knows-more c.args.nodes.now c.args.marks.now (value_by g.K.OfGrid.of g.K.Kernel.sum_of g.K.Kernel.difference_of g.K.Kernel.product_of c.args.unknowns.now c.args.cosines.now)
    None i c.loop-i.values.items c.push.new.self.items c.marked_value-value.result c.loop-i.invariant
    (λ m.
    c.marked_value-value.ensures m
    ∙ ap (λ (vs : List (Option _)). node_value g.K.OfGrid.of g.K.Kernel.sum_of g.K.Kernel.difference_of g.K.Kernel.product_of c.args.unknowns.now c.args.cosines.now vs n) c.deref.ensures.value
    ∙ node_value-is g.K.OfGrid.of g.K.Kernel.sum_of g.K.Kernel.difference_of g.K.Kernel.product_of c.args.unknowns.now c.args.cosines.now c.args.nodes.now c.args.marks.now i
    c.loop-i.values.items c.loop-i.invariant n c.requires.earlier c.requires.marks at m)
    c.in_ok-push.ensures.items
