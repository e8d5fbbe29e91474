-- Formulas and readings as the code holds them, seen as plain data.
use Rattle.std.specs.Prelude.{ℕ, ◌+◌, ◌≤◌, ℤ, List, ◌∷◌, map, length, option_to_list}
use Rattle.sk_expr.specs.declared.expr.Expr.{Expr}
use Rattle.sk_expr.specs.declared.formula.Auxiliary as held_auxiliary
use Rattle.sk_expr.specs.declared.formula.Auxiliary.TheVariants as auxiliary
use Rattle.sk_expr.specs.declared.formula.Relation as held_relation
use Rattle.sk_expr.specs.declared.formula.Relation.TheVariants as relation
use Rattle.sk_expr.specs.declared.formula.Formula as held_formula
use Rattle.sk_expr.specs.declared.row.Auxiliaries.{Auxiliaries}
use Rattle.sk_expr.specs.declared.readings.Readings.{Readings}
use Rattle.sk_expr.specs.Poly.{Poly}
use Rattle.sk_expr.specs.Trees.{poly_of}
use Rattle.sk_expr.specs.VectorViews.{vector_of}
use Rattle.sk_expr.specs.Formula.{Auxiliary, length_of, quotient_of, Relation, row, without_greatest, lesser, Formula}

abbrev pub auxiliary_of : {s : ℕ} → held_auxiliary.Auxiliary s → Auxiliary
auxiliary_of (auxiliary.Length a) = length_of (vector_of a)
auxiliary_of (auxiliary.Quotient n d) = quotient_of (poly_of n) (poly_of d)

abbrev pub relation_of : {s : ℕ} → held_relation.Relation s → Relation
relation_of (relation.Row t) = row (poly_of t)
relation_of (relation.WithoutGreatest a b) = without_greatest (vector_of a) (vector_of b)
relation_of (relation.Lesser t u) = lesser (poly_of t) (poly_of u)

abbrev pub formula_of : {s : ℕ} → held_formula.Formula s → Formula
formula_of {s} f = record {
  auxiliaries = map (auxiliary_of {s = s}) f.auxiliaries;
  cosines = f.cosines;
  relations = map (relation_of {s = s}) f.relations;
}

-- at most six auxiliaries, one cosine and three relations
abbrev pub IsSmall : {s : ℕ} → held_formula.Formula s → Type 0
IsSmall f = (length f.auxiliaries ≤ 6) × (length f.cosines ≤ 1) × (length f.relations ≤ 3)

-- there is room for more unknowns, rows and cosines
abbrev pub HasRoom : {s : ℕ} → Auxiliaries s → Type 0
HasRoom a = (length a.unknowns ≤ 60000) × (length a.rows ≤ 60000) × (length a.cosines ≤ 60000)

-- b has not many more than a
abbrev pub HasFewMore : {s : ℕ} → Auxiliaries s → Auxiliaries s → Type 0
HasFewMore a b = (length b.unknowns ≤ length a.unknowns + 6) × (length b.rows ≤ length a.rows + 6) × (length b.cosines ≤ length a.cosines + 1)

-- the readings of a vector's components
abbrev pub numbers_of : {s : ℕ} → Readings s → List ℤ
numbers_of a = a.x ∷ a.y ∷ option_to_list a.z

abbrev pub polys_of : List (Expr ℤ) → List (Poly ℤ)
polys_of ts = map poly_of ts
