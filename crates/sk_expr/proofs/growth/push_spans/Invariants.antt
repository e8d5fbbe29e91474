use Rattle.std.proofs.Common.{◌≡◌, ◌++◌, drop}
use Rattle.sk_expr.proofs.growth.push_spans.Given as goal

abbrev pub invariant-loop-cosine : goal.invariant-loop-cosine
invariant-loop-cosine g l = l.cosines ++ drop l.cosine-index l.more ≡ l.initial.cosines ++ l.more
