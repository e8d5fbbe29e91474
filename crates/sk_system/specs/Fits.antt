-- What makes a system testable at each point: every place in a tree is that of an unknown or of a cosine, and trees are small.
use Rattle.std.specs.Prelude.{◌≤◌, ◌<◌, ◌+◌, ℕ, ℤ, List, [], ◌∷◌, length}
use Rattle.sk_expr.specs.Poly.{Poly, unknown, IsInRange, nodes_in}
use Rattle.sk_expr.specs.Rows.{NamedRow}
use Rattle.sk_expr.specs.Formula.{Auxiliary, length_of, quotient_of, own_row, Relation, row, without_greatest, lesser, Formula}
use Rattle.sk_system.specs.Formulas.{NamedFormula}
use Rattle.sk_system.specs.GroupSystem.{GroupSystem}
use Rattle.sk_system.specs.Sizes.{auxiliaries_in, cosines_in, rows_in}

-- below u unknowns and c cosines, with at most n nodes
abbrev pub IsWithin : ℕ → ℕ → ℕ → Poly ℤ → Type 0
IsWithin u c n t = IsInRange u c t × (nodes_in t ≤ n)

abbrev pub AreWithin : ℕ → ℕ → ℕ → List (Poly ℤ) → Type 0
AreWithin u c n [] = Unit {0}
AreWithin u c n (t ∷ ts) = IsWithin u c n t × AreWithin u c n ts

-- a row has at most 4,000,000 nodes
abbrev pub IsRow : ℕ → ℕ → Poly ℤ → Type 0
IsRow u c t = IsWithin u c 4000000 t

-- what an auxiliary is read from
abbrev pub readings_of : Auxiliary → List (Poly ℤ)
readings_of (length_of a) = a
readings_of (quotient_of n d) = n ∷ d ∷ []

-- each auxiliary is read from what stands before it, and its own row has its own unknown too
abbrev pub AuxiliariesFit : ℕ → ℕ → List Auxiliary → Type 0
AuxiliariesFit u c [] = Unit {0}
AuxiliariesFit u c (x ∷ xs) = AreWithin u c 4000000 (readings_of x) × IsRow (u + 1) c (own_row (unknown u) x) × AuxiliariesFit (u + 1) c xs

-- readings are taken before the formula's own cosines are there, k of them
abbrev pub RelationFits : ℕ → ℕ → ℕ → Relation → Type 0
RelationFits u c k (row t) = IsRow u (c + k) t
RelationFits u c k (without_greatest a b) = AreWithin u c 4000000 a × AreWithin u c 4000000 b × (length a ≤ length b) × (0 < length b)
RelationFits u c k (lesser t v) = IsRow u c t × IsRow u c v

abbrev pub RelationsFit : ℕ → ℕ → ℕ → List Relation → Type 0
RelationsFit u c k [] = Unit {0}
RelationsFit u c k (r ∷ rs) = RelationFits u c k r × RelationsFit u c k rs

abbrev pub FormulaFits : ℕ → ℕ → Formula → Type 0
FormulaFits u c f = AuxiliariesFit u c f.auxiliaries × RelationsFit (u + length f.auxiliaries) c (length f.cosines) f.relations

abbrev pub FormulasFit : ℕ → ℕ → List NamedFormula → Type 0
FormulasFit u c [] = Unit {0}
FormulasFit u c (f ∷ fs) = FormulaFits u c f.formula × FormulasFit (u + length f.formula.auxiliaries) (c + length f.formula.cosines) fs

abbrev pub RowsFit : ℕ → ℕ → List NamedRow → Type 0
RowsFit u c [] = Unit {0}
RowsFit u c (r ∷ rs) = IsRow u c r.tree × RowsFit u c rs

-- at most 400 unknowns, rows and cosines, and every tree fits
pub record IsFit (y : GroupSystem) : Type 0 where
  pub unknowns : length y.unknowns + auxiliaries_in y.formulas ≤ 400
  pub few_rows : length y.rows + rows_in y.formulas ≤ 400
  pub cosines : cosines_in y.formulas ≤ 400
  pub rows : RowsFit (length y.unknowns) 0 y.rows
  pub formulas : FormulasFit (length y.unknowns) 0 y.formulas
