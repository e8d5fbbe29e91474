-- What a system keeps, as plain data.
use Rattle.std.specs.Prelude.{ℕ, map}
use Rattle.sk_expr.specs.Trees.{poly_of}
use Rattle.sk_expr.specs.FormulaViews.{formula_of}
use Rattle.sk_system.specs.Formulas.{NamedFormula}
use Rattle.sk_system.specs.OwnRows.{OwnNumbers}
use Rattle.sk_system.specs.declared.formulas.NamedFormula.{NamedFormula as KeptFormula}
use Rattle.sk_system.specs.declared.own.OwnNumbers.{OwnNumbers as KeptNumbers}

abbrev pub numbers_view : {s : ℕ} → KeptNumbers s → OwnNumbers
numbers_view n = record { entity = n.entity; trees = map poly_of n.trees; is_read = n.is_read }

abbrev pub formula_view : {s : ℕ} → KeptFormula s → NamedFormula
formula_view f = record { constraint = f.constraint; formula = formula_of f.formula }
