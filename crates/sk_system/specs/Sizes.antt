-- How many unknowns, cosines and rows formulas add to a system.
use Rattle.std.specs.Prelude.{ℕ, ◌+◌, ◌-◌, List, length}
use Rattle.std.specs.List.{sum_by}
use Rattle.sk_expr.specs.Formula.{Relation, row, without_greatest, lesser, Formula}
use Rattle.sk_system.specs.Formulas.{NamedFormula}

-- all components but one; else one row
abbrev pub rows_of_relation : Relation → ℕ
rows_of_relation (row t) = 1
rows_of_relation (without_greatest a b) = length b - 1
rows_of_relation (lesser t u) = 1

-- each auxiliary has a row of its own
abbrev pub formula_rows : Formula → ℕ
formula_rows f = length f.auxiliaries + sum_by rows_of_relation f.relations

abbrev pub auxiliaries_in : List NamedFormula → ℕ
auxiliaries_in fs = sum_by (λ f. length f.formula.auxiliaries) fs

abbrev pub cosines_in : List NamedFormula → ℕ
cosines_in fs = sum_by (λ f. length f.formula.cosines) fs

abbrev pub rows_in : List NamedFormula → ℕ
rows_in fs = sum_by (λ f. formula_rows f.formula) fs
