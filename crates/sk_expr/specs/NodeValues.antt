-- The value of each marked node of a tape, each over those of the earlier ones.
use Rattle.std.specs.Prelude.{◌≡◌, ℕ, ◌<◌, ℤ, Bool, true, List, length, get_or, slice_get, Option, Some, None, option_and_then}
use Rattle.sk_expr.specs.Poly.{Poly}
use Rattle.sk_expr.specs.declared.node.Node.{Node}
use Rattle.sk_expr.specs.declared.node.Node.TheVariants.{Num, Cos, Var, Add, Sub, Mul}
use Rattle.sk_expr.specs.Tapes.{tree_at}
use Rattle.sk_expr.specs.Marks.{is_marked}

-- vs has what f gives for the trees of the marked ones of the first i nodes
pub record Knows {B : Type 0} (ns : List (Node ℤ)) (ms : List Bool) (f : Poly ℤ → B) (d : B) (i : ℕ) (vs : List B) : Type 0 where
  pub long : length vs ≡ i
  pub at : (a : ℕ) → a < i → is_marked ms a ≡ true → get_or vs a d ≡ f (tree_at ns a)

abbrev pub of_both : {K : Type 0} → (K → K → Option K) → Option K → Option K → Option K
of_both f a b = option_and_then (λ x. option_and_then (λ y. f x y) b) a

-- the value of a node over those of the earlier ones
abbrev pub node_value : {K : Type 0} → (ℤ → K) → (K → K → Option K) → (K → K → Option K) → (K → K → Option K) → List K → List K → List (Option K) → Node ℤ → Option K
node_value of add sub mul us cs vs (Num g) = Some (of g)
node_value of add sub mul us cs vs (Cos i) = slice_get cs i
node_value of add sub mul us cs vs (Var i) = slice_get us i
node_value of add sub mul us cs vs (Add a b) = of_both add (get_or vs a None) (get_or vs b None)
node_value of add sub mul us cs vs (Sub a b) = of_both sub (get_or vs a None) (get_or vs b None)
node_value of add sub mul us cs vs (Mul a b) = of_both mul (get_or vs a None) (get_or vs b None)
