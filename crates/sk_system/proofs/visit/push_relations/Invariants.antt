use Rattle.std.proofs.Common.{◌≡◌, ◌++◌, map, length}
use Rattle.sk_expr.specs.Rows.{row_of}
use Rattle.sk_system.proofs.visit.push_relations.Given as goal

abbrev pub invariant-loop-rest : goal.invariant-loop-rest
invariant-loop-rest g l = record {
  rows : map (row_of {s = g.row.S}) l.seen.rows ++ map (row_of {s = g.row.S}) l.rest.items ≡ map (row_of {s = g.row.S}) l.initial.seen.rows ++ map (row_of {s = g.row.S}) l.fn.rows.items;
  unknowns : l.seen.unknowns ≡ l.initial.seen.unknowns;
  cosines : l.seen.cosines ≡ l.initial.seen.cosines;
  forced : l.seen.forced ≡ l.initial.seen.forced;
}

abbrev pub decreases-loop-rest : goal.decreases-loop-rest
decreases-loop-rest g l = length l.rest.items
