-- Contacts of curves as the code holds them, seen as polynomials.
use Rattle.std.specs.Prelude.{ℕ, ℤ, List, map, Option, Some, None}
use Rattle.sk_expr.specs.Poly.{Poly}
use Rattle.sk_expr.specs.Parts.{vector_at}
use Rattle.sk_expr.specs.PartViews.{v3_of, pair_of}
use Rattle.sk_expr.specs.declared.expr.Expr.{Expr}
use Rattle.sk_cubic.specs.CubicRows.{CurveEnd, spoke, tangent, Contact, with_line, of_curves}
use Rattle.sk_cubic.specs.declared.contacts.EndParts.{EndParts}
use Rattle.sk_cubic.specs.declared.contacts.EndParts.TheVariants as end
use Rattle.sk_cubic.specs.declared.contacts.CubicParts.{CubicParts}
use Rattle.sk_cubic.specs.declared.contacts.CubicParts.TheVariants as held

abbrev pub end_of : {s : ℕ} → EndParts s → CurveEnd
end_of (end.Arc r) = spoke (pair_of r)
end_of (end.Cubic d) = tangent (pair_of d)

abbrev pub both_of : Option (List (List (Expr ℤ))) → Option (List (Poly ℤ) × List (Poly ℤ))
both_of None = None
both_of (Some ps) = Some (vector_at (map pair_of ps) 0, vector_at (map pair_of ps) 1)

abbrev pub contact_of : {s : ℕ} → CubicParts s → Contact
contact_of (held.Line d line flat) = with_line (v3_of d) (v3_of line) (both_of flat)
contact_of (held.Curves a b) = of_curves (end_of a) (end_of b)
