-- Quaternions (w, x, y, z) as lists of four polynomials: the axes that one turns the first three to, and products.
use Rattle.std.specs.Prelude.{ℕ, ℤ, List, [], ◌∷◌}
use Rattle.sk_expr.specs.Poly.{Poly, plus, minus, times}
use Rattle.sk_expr.specs.Vectors.{whole, component}
use Rattle.sk_expr.specs.Parts.{NormalAxes}

-- 2 a b
abbrev pub twice : ℕ → Poly ℤ → Poly ℤ → Poly ℤ
twice s a b = times (times (whole s 2) a) b

-- the columns of the matrix of the rotation: U, V and the normal N
unfoldable pub quaternion_axes : ℕ → List (Poly ℤ) → NormalAxes
quaternion_axes s q =
    let w = component q 0 in
    let x = component q 1 in
    let y = component q 2 in
    let z = component q 3 in
    let ww = times w w in
    let xx = times x x in
    let yy = times y y in
    let zz = times z z in
    record {
      u = minus (minus (plus ww xx) yy) zz ∷ plus (twice s w z) (twice s x y) ∷ minus (twice s x z) (twice s w y) ∷ [];
      v = minus (twice s x y) (twice s w z) ∷ minus (plus (minus ww xx) yy) zz ∷ plus (twice s w x) (twice s y z) ∷ [];
      n = plus (twice s x z) (twice s w y) ∷ minus (twice s y z) (twice s w x) ∷ plus (minus (minus ww xx) yy) zz ∷ [];
    }

-- Hamilton's product of (w, x, y, z) and (a, b, c, d)
unfoldable pub quaternion_product : List (Poly ℤ) → List (Poly ℤ) → List (Poly ℤ)
quaternion_product p q =
    let w = component p 0 in
    let x = component p 1 in
    let y = component p 2 in
    let z = component p 3 in
    let a = component q 0 in
    let b = component q 1 in
    let c = component q 2 in
    let d = component q 3 in
    minus (minus (minus (times w a) (times x b)) (times y c)) (times z d)
    ∷ minus (plus (plus (times w b) (times x a)) (times y d)) (times z c)
    ∷ plus (plus (minus (times w c) (times x d)) (times y a)) (times z b)
    ∷ plus (minus (plus (times w d) (times x c)) (times y b)) (times z a)
    ∷ []
