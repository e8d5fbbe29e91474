use Rattle.sk_expr.specs.Examples.{AreDoubled}
use Rattle.number_tests.proofs.tapes.doubled.Given as goal

abbrev pub invariant-loop-k : goal.invariant-loop-k
invariant-loop-k l = AreDoubled l.k l.nodes.items
