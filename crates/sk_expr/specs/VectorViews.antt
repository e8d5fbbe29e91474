-- A vector as the code holds it, in a workplane or in space, seen as the list of its components.
use Rattle.std.specs.Prelude.{ℕ, ℤ, List, [], ◌∷◌, Option, Some, None}
use Rattle.sk_expr.specs.Poly.{Poly}
use Rattle.sk_expr.specs.Trees.{poly_of}
use Rattle.sk_expr.specs.declared.expr.Expr.{Expr}
use Rattle.sk_expr.specs.declared.vectors.Vector.{Vector}

abbrev pub third_of : Option (Expr ℤ) → List (Poly ℤ)
third_of None = []
third_of (Some t) = poly_of t ∷ []

unfoldable pub vector_of : {s : ℕ} → Vector s → List (Poly ℤ)
vector_of v = poly_of v.x ∷ poly_of v.y ∷ third_of v.z
