use Rattle.std.proofs.Common.{◌≡◌, ◌+◌, ◌-◌, ◌<◌, arith, sym, ap, ◌∙◌, Some, length, subst}
use Rattle.std.proofs.lemmas.Option.{slice_get-get_or}
use Rattle.std.specs.Prelude.{slice_get}
use Rattle.sk_expr.specs.NodeLaws.{Grows, Grows-trans, AreMarksFrom, marks-step, marks-grow, operands-fit}
use Rattle.sk_expr.proofs.marks.mark_under.Goals as goal

pub mark_operands-requires : goal.mark_operands-requires
mark_operands-requires g c =
    let i = c.loop-i.i - 1 in
    let n = c.index-nodes-i.result in
    let inside : i < length c.args.nodes.now = omega (arith, c.loop-i-test.true, c.loop-i.auto.i) in
    let at : slice_get c.args.nodes.now i ≡ Some n = slice_get-get_or c.args.nodes.now i n inside ∙ ap Some (sym c.index-nodes-i.is) in
    let next : c.loop-i.i ≡ i + 1 = omega (arith, c.loop-i-test.true) in
    (omega arith, operands-fit c.args.nodes.now i c.loop-i.i n c.loop-i.marks c.requires.earlier at next c.loop-i.invariant.marks)

pub loop-i-preserved-then-marks-i : goal.loop-i-preserved-then-marks-i
loop-i-preserved-then-marks-i g c =
    let i = c.loop-i.i - 1 in
    let n = c.index-nodes-i.result in
    let inside : i < length c.args.nodes.now = omega (arith, c.loop-i-test.true, c.loop-i.auto.i) in
    let at : slice_get c.args.nodes.now i ≡ Some n = slice_get-get_or c.args.nodes.now i n inside ∙ ap Some (sym c.index-nodes-i.is) in
    let next : c.loop-i.i ≡ i + 1 = omega (arith, c.loop-i-test.true) in
    let marked = sym c.mark_operands.ensures in
    record {
      marks = subst (AreMarksFrom c.args.nodes.now i) marked (marks-step c.args.nodes.now i c.loop-i.i n c.loop-i.marks c.requires.earlier at next c.loop-i.invariant.marks);
      grown =
          Grows-trans c.args.marks.now c.loop-i.marks c.mark_operands.new.marks c.loop-i.invariant.grown
          (subst (Grows c.loop-i.marks) marked (marks-grow c.args.nodes.now i c.loop-i.i n c.loop-i.marks c.requires.earlier at next c.loop-i.invariant.marks));
    }
