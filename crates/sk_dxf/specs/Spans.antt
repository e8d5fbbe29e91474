-- Sums and products of spans, none where an operand is none, and the spans of polynomials of plain numbers.
use Rattle.std.specs.Prelude.{ℕ, ℤ, List, [], map, get_or, Option, None, option_and_then}
use Rattle.sk_num.specs.Ends.{Ends, span_add, span_sub, span_mul}
use Rattle.sk_expr.specs.Poly.{Poly}
use Rattle.sk_expr.specs.SpanValue.{span_value}

unfoldable pub span_sum : Option Ends → Option Ends → Option Ends
span_sum a b = option_and_then (λ x. option_and_then (λ y. span_add x y) b) a

unfoldable pub span_difference : Option Ends → Option Ends → Option Ends
span_difference a b = option_and_then (λ x. option_and_then (λ y. span_sub x y) b) a

unfoldable pub span_product : ℕ → Option Ends → Option Ends → Option Ends
span_product s a b = option_and_then (λ x. option_and_then (λ y. span_mul s x y) b) a

abbrev pub span_at : List (Option Ends) → ℕ → Option Ends
span_at a i = get_or a i None

unfoldable pub span_dot : ℕ → List (Option Ends) → List (Option Ends) → Option Ends
span_dot s a b = span_sum (span_sum (span_product s (span_at a 0) (span_at b 0)) (span_product s (span_at a 1) (span_at b 1))) (span_product s (span_at a 2) (span_at b 2))

-- the span of a polynomial without unknowns
unfoldable pub plain_span : ℕ → Poly ℤ → Option Ends
plain_span s t = span_value s [] [] t

unfoldable pub plain_spans : ℕ → List (Poly ℤ) → List (Option Ends)
plain_spans s ts = map (plain_span s) ts
