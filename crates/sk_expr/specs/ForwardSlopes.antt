-- Slopes of the nodes of a tape in forward mode: each node with the duals in the listed columns that occur in its tree, and no others.
use Rattle.std.specs.Prelude.{ℕ, ◌^◌, ◌==◌, ℤ, pos, Bool, nat_lt, List, [], ◌∷◌, map, get_or, slice_get, Option, Some, None, option_map, if◌then◌else◌}
use Rattle.sk_num.specs.Ends.{Ends, point, span_add, span_sub, span_mul}
use Rattle.sk_expr.specs.Poly.{Poly}
use Rattle.sk_expr.specs.SpanValue.{value_by, DualEnds, dual_of, dual_add, dual_sub, dual_mul, dual_value}
use Rattle.sk_expr.specs.AbsentSlope.{constant_dual}
use Rattle.sk_expr.specs.Columns.{columns_in}
use Rattle.sk_expr.specs.NodeValues.{of_both}
use Rattle.sk_expr.specs.declared.forward.Operation.{Operation}
use Rattle.sk_expr.specs.declared.forward.Operation.TheVariants.{Sum, Difference, Product}
use Rattle.sk_expr.specs.declared.node.Node.{Node}
use Rattle.sk_expr.specs.declared.node.Node.TheVariants.{Num, Cos, Var, Add, Sub, Mul}

-- the span of a polynomial
abbrev pub plain_value : ℕ → List Ends → List Ends → Poly ℤ → Option Ends
plain_value s us cs t = value_by point span_add span_sub (span_mul s) us cs t

-- each column beside what f gives there
abbrev pub beside : (ℕ → Option DualEnds) → List ℕ → List (ℕ × Option DualEnds)
beside f [] = []
beside f (k ∷ ks) = (k, f k) ∷ beside f ks

-- the duals of a polynomial in the listed columns that occur in it
abbrev pub duals_in : ℕ → List Ends → List Ends → (ℕ → Bool) → Poly ℤ → List (ℕ × Option DualEnds)
duals_in s us cs listed t = beside (λ c. dual_value s us cs c t) (columns_in listed t)

-- the operation of a node with two operands
abbrev pub operation_of : ℕ → Operation → DualEnds → DualEnds → Option DualEnds
operation_of s Sum = dual_add
operation_of s Difference = dual_sub
operation_of s Product = dual_mul s

-- two operands have the values v and w and the duals ps and qs; a column that one of them lacks has the slope 0 there
abbrev pub of_first : (DualEnds → DualEnds → Option DualEnds) → Option Ends → ℕ × Option DualEnds → ℕ × Option DualEnds
of_first f w p = (p.0, of_both f p.1 (option_map constant_dual w))

abbrev pub of_second : (DualEnds → DualEnds → Option DualEnds) → Option Ends → ℕ × Option DualEnds → ℕ × Option DualEnds
of_second f v q = (q.0, of_both f (option_map constant_dual v) q.1)

-- p before ps, merged with the last argument, where `rest` merges ps with a list
abbrev pub merge_after : (DualEnds → DualEnds → Option DualEnds) → Option Ends → Option Ends → ℕ × Option DualEnds → (List (ℕ × Option DualEnds) → List (ℕ × Option DualEnds)) → List (ℕ × Option DualEnds) → List (ℕ × Option DualEnds)
merge_after f v w p rest [] = of_first f w p ∷ rest []
merge_after f v w p rest (q ∷ qs) =
    if nat_lt p.0 q.0 then of_first f w p ∷ rest (q ∷ qs)
    else if nat_lt q.0 p.0 then of_second f v q ∷ merge_after f v w p rest qs
    else (p.0, of_both f p.1 q.1) ∷ rest qs

abbrev pub merged : (DualEnds → DualEnds → Option DualEnds) → Option Ends → Option Ends → List (ℕ × Option DualEnds) → List (ℕ × Option DualEnds) → List (ℕ × Option DualEnds)
merged f v w [] qs = map (of_second f v) qs
merged f v w (p ∷ ps) qs = merge_after f v w p (merged f v w ps) qs

-- the duals of a node over the values and duals of the earlier ones
abbrev pub node_duals : ℕ → List Ends → (ℕ → Bool) → List (Option Ends) → List (List (ℕ × Option DualEnds)) → Node ℤ → List (ℕ × Option DualEnds)
node_duals s us listed vs es (Num g) = []
node_duals s us listed vs es (Cos i) = []
node_duals s us listed vs es (Var i) = if listed i then (i, option_map (λ x. dual_of x (point (pos (2 ^ s)))) (slice_get us i)) ∷ [] else []
node_duals s us listed vs es (Add a b) = merged dual_add (get_or vs a None) (get_or vs b None) (get_or es a []) (get_or es b [])
node_duals s us listed vs es (Sub a b) = merged dual_sub (get_or vs a None) (get_or vs b None) (get_or es a []) (get_or es b [])
node_duals s us listed vs es (Mul a b) = merged (dual_mul s) (get_or vs a None) (get_or vs b None) (get_or es a []) (get_or es b [])

-- what is found beside a column
abbrev pub found : List (ℕ × Option DualEnds) → ℕ → Option (Option DualEnds)
found [] c = None
found (p ∷ ps) c = if p.0 == c then Some p.1 else found ps c

abbrev pub pick : ℕ → Option (Option DualEnds) → List (ℕ × Option DualEnds) → List (ℕ × Option DualEnds)
pick c None ps = ps
pick c (Some d) ps = (c, d) ∷ ps

-- the columns that are found, in their order
abbrev pub picked : List (ℕ × Option DualEnds) → List ℕ → List (ℕ × Option DualEnds)
picked ps [] = []
picked ps (c ∷ ks) = pick c (found ps c) (picked ps ks)
