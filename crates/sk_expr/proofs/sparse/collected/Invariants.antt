use Rattle.std.proofs.Common.{◌≡◌}
use Rattle.std.specs.Prelude.{drop}
use Rattle.sk_expr.specs.SparseRows.{collected, collected_onto}
use Rattle.sk_expr.proofs.sparse.collected.Given as goal

abbrev pub invariant-loop-column : goal.invariant-loop-column
invariant-loop-column g l = collected_onto l.columns.items l.spans.items (drop l.column-index l.duals) ≡ collected l.duals
