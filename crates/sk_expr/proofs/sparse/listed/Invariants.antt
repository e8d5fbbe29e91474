use Rattle.std.proofs.Common.{◌≡◌, ℕ, false, length, get_or}
use Rattle.std.specs.Prelude.{take}
use Rattle.sk_expr.specs.Columns.{is_among}
use Rattle.sk_expr.proofs.sparse.listed.Given as goal

abbrev pub invariant-loop-column : goal.invariant-loop-column
invariant-loop-column l = record {
  long : length l.listed.items ≡ l.count;
  same : (c : ℕ) → get_or l.listed.items c false ≡ is_among (take l.column-index l.columns) c;
}
