use Rattle.std.proofs.Common.{◌≡◌, ◌≤◌, ◌+◌, drop, map, length}
use Rattle.sk_expr.specs.Visits.{grown_of}
use Rattle.sk_system.specs.GroupSystem.{add_formulas}
use Rattle.sk_system.specs.Fits.{FormulasFit}
use Rattle.sk_system.specs.Sizes.{auxiliaries_in, cosines_in, rows_in}
use Rattle.sk_system.specs.Views.{formula_view}
use Rattle.sk_system.proofs.visit.add_formulas.Given as goal

abbrev pub invariant-loop-f : goal.invariant-loop-f
invariant-loop-f g l =
    let left = map (formula_view {s = g.row.S}) (drop l.f-index l.formulas) in
    record {
      rest : add_formulas g.row.S left (grown_of {s = g.row.S} l.seen) ≡ add_formulas g.row.S (map (formula_view {s = g.row.S}) l.formulas) (grown_of {s = g.row.S} l.initial.seen);
      fit : FormulasFit (length l.seen.unknowns) (length l.seen.cosines) left;
      unknowns : length l.seen.unknowns + auxiliaries_in left ≤ 400;
      rows : length l.seen.rows + rows_in left ≤ 400;
      cosines : length l.seen.cosines + cosines_in left ≤ 400;
    }
