use Rattle.sk_expr.specs.NodeLaws.{AreMarksFrom, Grows}
use Rattle.sk_expr.proofs.marks.mark_under.Given as goal

abbrev pub invariant-loop-i : goal.invariant-loop-i
invariant-loop-i g l = record {
  marks : AreMarksFrom l.nodes l.i l.marks;
  grown : Grows l.fn.marks l.marks;
}
