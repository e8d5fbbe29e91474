use Rattle.std.proofs.Common.{◌≡◌, ◌≤◌, ◌+◌, ◌++◌, drop, map, length}
use Rattle.std.specs.List.{All}
use Rattle.sk_geom.specs.Views.{source_of}
use Rattle.sk_expr.specs.FormulaViews.{IsSmall}
use Rattle.sk_system.specs.Formulas.{formulas_from}
use Rattle.sk_system.specs.Sizes.{auxiliaries_in, cosines_in}
use Rattle.sk_system.specs.Views.{formula_view}
use Rattle.sk_system.specs.declared.formulas.NamedFormula.{NamedFormula}
use Rattle.sk_system.proofs.formulas.formulas_of.Given as goal

abbrev pub invariant-loop-c : goal.invariant-loop-c
invariant-loop-c g l =
    let o = source_of {s = g.row.S} l.source in
    record {
      rest : map (formula_view {s = g.row.S}) l.formulas.items ++ formulas_from o l.unknowns l.cosines (drop l.c-index l.constraints) ≡ formulas_from o (length o.unknowns) 0 l.constraints;
      room : l.unknowns + auxiliaries_in (formulas_from o l.unknowns l.cosines (drop l.c-index l.constraints)) ≤ 60000;
      cosines : l.cosines + cosines_in (formulas_from o l.unknowns l.cosines (drop l.c-index l.constraints)) ≤ 60000;
      small : All (λ (f : NamedFormula g.row.S). IsSmall f.formula) l.formulas.items;
    }
