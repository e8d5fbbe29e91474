use Rattle.std.proofs.Common.{◌≡◌, drop}
use Rattle.sk_expr.specs.ForwardSlopes.{found}
use Rattle.sk_expr.proofs.sparse.found.Given as goal

abbrev pub invariant-loop-pair : goal.invariant-loop-pair
invariant-loop-pair g l = found (drop l.pair-index l.duals) l.column ≡ found l.duals l.column
