use Rattle.std.proofs.Common.{◌≡◌, ◌++◌, map, length, drop}
use Rattle.sk_expr.specs.Rows.{row_of}
use Rattle.sk_expr.specs.FormulaViews.{polys_of}
use Rattle.sk_expr.specs.Readings.{rows_from}
use Rattle.sk_expr.proofs.growth.named.Given as goal

abbrev pub invariant-loop-tree : goal.invariant-loop-tree
invariant-loop-tree g l = record {
  rest : map (row_of {s = g.row.S}) l.rows.items ++ rows_from l.kind l.handle l.index (polys_of (drop l.tree-index l.trees))
      ≡ rows_from l.kind l.handle 0 (polys_of l.trees);
  size : length l.rows.items ≡ l.tree-index;
  index : l.index ≡ l.tree-index;
}
