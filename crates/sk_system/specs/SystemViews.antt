-- A system as plain data.
use Rattle.std.specs.Prelude.{ℕ, map}
use Rattle.sk_expr.specs.Rows.{row_of}
use Rattle.sk_system.specs.GroupSystem.{GroupSystem, plain_system}
use Rattle.sk_system.specs.Views.{numbers_view, formula_view}
use Rattle.sk_system.specs.declared.system.System.{System}

abbrev pub system_of : {s : ℕ} → System s → GroupSystem
system_of {s} y = plain_system y.unknowns.items (map (numbers_view {s = s}) y.numbers.items) (map (row_of {s = s}) y.rows.items) (map (formula_view {s = s}) y.formulas.items)
