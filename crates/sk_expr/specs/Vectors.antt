-- Vectors of polynomials, and the formulas that rows are spelled in.
-- A vector is the list of its components: two in a workplane, three in space.
use Rattle.std.specs.Prelude.{ℕ, ◌*◌, ◌^◌, ℤ, pos, List, [], ◌∷◌, map, get_or}
use Rattle.sk_expr.specs.Poly.{Poly, number, plus, minus, times}

-- the plain number n at the scale s
abbrev pub whole : ℕ → ℕ → Poly ℤ
whole s n = number (pos (n * 2 ^ s))

abbrev pub component : List (Poly ℤ) → ℕ → Poly ℤ
component a i = get_or a i (number (pos 0))

unfoldable pub vector_sum : List (Poly ℤ) → List (Poly ℤ) → List (Poly ℤ)
vector_sum [] ys = []
vector_sum (x ∷ xs) [] = []
vector_sum (x ∷ xs) (y ∷ ys) = plus x y ∷ vector_sum xs ys

unfoldable pub vector_difference : List (Poly ℤ) → List (Poly ℤ) → List (Poly ℤ)
vector_difference [] ys = []
vector_difference (x ∷ xs) [] = []
vector_difference (x ∷ xs) (y ∷ ys) = minus x y ∷ vector_difference xs ys

-- k a, component by component
unfoldable pub scaled : Poly ℤ → List (Poly ℤ) → List (Poly ℤ)
scaled k a = map (times k) a

-- a k, component by component
unfoldable pub scaled_by : List (Poly ℤ) → Poly ℤ → List (Poly ℤ)
scaled_by a k = map (λ c. times c k) a

-- 0 - a, component by component
unfoldable pub negated : List (Poly ℤ) → List (Poly ℤ)
negated a = map (minus (number (pos 0))) a

-- t + a.x b.x + a.y b.y + ..
abbrev pub dot_onto : Poly ℤ → List (Poly ℤ) → List (Poly ℤ) → Poly ℤ
dot_onto t [] ys = t
dot_onto t (x ∷ xs) [] = t
dot_onto t (x ∷ xs) (y ∷ ys) = dot_onto (plus t (times x y)) xs ys

-- a . b, summed from the left
unfoldable pub dot : List (Poly ℤ) → List (Poly ℤ) → Poly ℤ
dot [] ys = number (pos 0)
dot (x ∷ xs) [] = number (pos 0)
dot (x ∷ xs) (y ∷ ys) = dot_onto (times x y) xs ys

-- |a|^2
unfoldable pub squared : List (Poly ℤ) → Poly ℤ
squared a = dot a a

-- a.i b.j - a.j b.i
unfoldable pub minor : List (Poly ℤ) → List (Poly ℤ) → ℕ → ℕ → Poly ℤ
minor a b i j = minus (times (component a i) (component b j)) (times (component a j) (component b i))

unfoldable pub cross : List (Poly ℤ) → List (Poly ℤ) → List (Poly ℤ)
cross a b = minor a b 1 2 ∷ minor a b 2 0 ∷ minor a b 0 1 ∷ []

-- a.u b.v - a.v b.u, in a workplane
abbrev pub flat_cross : List (Poly ℤ) → List (Poly ℤ) → Poly ℤ
flat_cross a b = minor a b 0 1

-- d.v e.u - d.u e.v, in a workplane
abbrev pub side : List (Poly ℤ) → List (Poly ℤ) → Poly ℤ
side d e = minor d e 1 0

-- p + q - 2 m
abbrev pub about : ℕ → List (Poly ℤ) → List (Poly ℤ) → List (Poly ℤ) → List (Poly ℤ)
about s p q m = vector_difference (vector_sum p q) (scaled (whole s 2) m)
