-- The polynomial that a tree spells.
use Rattle.sk_expr.specs.Poly.{Poly, number, cosine, unknown, plus, minus, times}
use Rattle.sk_expr.specs.declared.expr.Expr.{Expr, Add', Sub', Mul'}
use Rattle.sk_expr.specs.declared.expr.Expr.TheVariants.{Num, Cos, Var}

-- the places of the operands in memory don't count
abbrev pub poly_of : {G : Type 0} → Expr G → Poly G
poly_of (Num g) = number g
poly_of (Cos i) = cosine i
poly_of (Var i) = unknown i
poly_of (Add' p a q b) = plus (poly_of a) (poly_of b)
poly_of (Sub' p a q b) = minus (poly_of a) (poly_of b)
poly_of (Mul' p a q b) = times (poly_of a) (poly_of b)
