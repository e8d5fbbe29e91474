-- That a system fits can be so in one way alone: facts of a struct's fields have to be of this kind.
use Rattle.std.proofs.Common.{ℕ, ℤ, List, [], ◌∷◌, ◌+◌, length}
use Rattle.std.specs.Coded.{le_prop}
use Rattle.sk_expr.specs.Poly.{Poly, number, cosine, unknown, plus, minus, times, IsInRange}
use Rattle.sk_expr.specs.Rows.{NamedRow}
use Rattle.sk_expr.specs.Formula.{Auxiliary, own_row, Relation, row, without_greatest, lesser}
use Rattle.sk_system.specs.Formulas.{NamedFormula}
use Rattle.sk_system.specs.GroupSystem.{GroupSystem}
use Rattle.sk_system.specs.Fits.{AreWithin, readings_of, AuxiliariesFit, RelationFits, RelationsFit, FormulasFit, RowsFit, IsFit}

range-prop : (u c : ℕ) (t : Poly ℤ) → IsProp (IsInRange u c t)
range-prop u c (number g) = hlevel
range-prop u c (cosine i) = hlevel le_prop
range-prop u c (unknown i) = hlevel le_prop
range-prop u c (plus a b) = hlevel (range-prop u c a, range-prop u c b)
range-prop u c (minus a b) = hlevel (range-prop u c a, range-prop u c b)
range-prop u c (times a b) = hlevel (range-prop u c a, range-prop u c b)

within-prop : (u c n : ℕ) (ts : List (Poly ℤ)) → IsProp (AreWithin u c n ts)
within-prop u c n [] = hlevel
within-prop u c n (t ∷ ts) = hlevel (le_prop, range-prop u c t, within-prop u c n ts)

auxiliaries-prop : (u c : ℕ) (xs : List Auxiliary) → IsProp (AuxiliariesFit u c xs)
auxiliaries-prop u c [] = hlevel
auxiliaries-prop u c (x ∷ xs) = hlevel (le_prop, within-prop u c 4000000 (readings_of x), range-prop (u + 1) c (own_row (unknown u) x), auxiliaries-prop (u + 1) c xs)

relation-prop : (u c k : ℕ) (r : Relation) → IsProp (RelationFits u c k r)
relation-prop u c k (row t) = hlevel (le_prop, range-prop u (c + k) t)
relation-prop u c k (without_greatest a b) = hlevel (le_prop, within-prop u c 4000000 a, within-prop u c 4000000 b)
relation-prop u c k (lesser t v) = hlevel (le_prop, range-prop u c t, range-prop u c v)

relations-prop : (u c k : ℕ) (rs : List Relation) → IsProp (RelationsFit u c k rs)
relations-prop u c k [] = hlevel
relations-prop u c k (r ∷ rs) = hlevel (relation-prop u c k r, relations-prop u c k rs)

formulas-prop : (u c : ℕ) (fs : List NamedFormula) → IsProp (FormulasFit u c fs)
formulas-prop u c [] = hlevel
formulas-prop u c (f ∷ fs) =
    hlevel (
      auxiliaries-prop u c f.formula.auxiliaries,
      relations-prop (u + length f.formula.auxiliaries) c (length f.formula.cosines) f.formula.relations,
      formulas-prop (u + length f.formula.auxiliaries) (c + length f.formula.cosines) fs,
    )

rows-prop : (u c : ℕ) (rs : List NamedRow) → IsProp (RowsFit u c rs)
rows-prop u c [] = hlevel
rows-prop u c (r ∷ rs) = hlevel (le_prop, range-prop u c r.tree, rows-prop u c rs)

pub fit-prop : (y : GroupSystem) → IsProp (IsFit y)
fit-prop y = hlevel (le_prop, rows-prop (length y.unknowns) 0 y.rows, formulas-prop (length y.unknowns) 0 y.formulas)
