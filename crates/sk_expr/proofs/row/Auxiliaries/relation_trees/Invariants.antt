use Rattle.std.proofs.Common.{◌≡◌, ◌≤◌, ◌*◌, ◌++◌, map, drop, length}
use Rattle.std.specs.Prelude.{option_map}
use Rattle.sk_expr.specs.Visits.{grown_of}
use Rattle.sk_expr.specs.FormulaViews.{polys_of, relation_of}
use Rattle.sk_expr.specs.Readings.{all_relation_rows}
use Rattle.sk_expr.proofs.row.Auxiliaries.relation_trees.Given as goal

abbrev pub invariant-loop-relation : goal.invariant-loop-relation
invariant-loop-relation g l = record {
  rest : option_map (λ ts. polys_of l.trees.items ++ ts) (all_relation_rows g.row.S (grown_of {s = g.row.S} l.self) (map (relation_of {s = g.row.S}) (drop l.relation-index l.relations)))
      ≡ all_relation_rows g.row.S (grown_of {s = g.row.S} l.self) (map (relation_of {s = g.row.S}) l.relations);
  few : length l.trees.items ≤ 3 * l.relation-index;
}
