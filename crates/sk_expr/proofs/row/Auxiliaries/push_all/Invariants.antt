use Rattle.std.proofs.Common.{◌≡◌, ◌+◌, map, length, drop}
use Rattle.sk_expr.specs.Visits.{grown_of}
use Rattle.sk_expr.specs.FormulaViews.{auxiliary_of}
use Rattle.sk_expr.specs.Readings.{add_auxiliaries}
use Rattle.sk_expr.proofs.row.Auxiliaries.push_all.Given as goal

abbrev pub invariant-loop-x : goal.invariant-loop-x
invariant-loop-x g l = record {
  rest : add_auxiliaries g.row.S l.kind l.handle (map (auxiliary_of {s = g.row.S}) (drop l.x-index l.xs)) (grown_of {s = g.row.S} l.self)
      ≡ add_auxiliaries g.row.S l.kind l.handle (map (auxiliary_of {s = g.row.S}) l.xs) (grown_of {s = g.row.S} l.initial.self);
  unknowns : length l.self.unknowns ≡ length l.initial.self.unknowns + l.x-index;
  cosines : l.self.cosines ≡ l.initial.self.cosines;
  rows : length l.self.rows ≡ length l.initial.self.rows + l.x-index;
}
