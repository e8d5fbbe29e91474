-- What the normal vector of a side keeps to: it is at a right angle to the line and to the vector along which the line is moved.
use Rattle.std.specs.Prelude.{◌≡◌, ℕ, ◌≤◌, ℤ, pos, List, [], ◌∷◌}
use Rattle.sk_expr.specs.Poly.{Poly}
use Rattle.sk_expr.specs.ExactValue.{value_at}
use Rattle.sk_expr.specs.Vectors.{vector_difference, dot}
use Rattle.sk_face.specs.FaceRows.{Face, flat, side, face_normal}

-- the exact value of v . a is 0 at every point p, for all cosines k, over every power of two from the scale on
abbrev pub IsAtRightAngle : ℕ → List (Poly ℤ) → List (Poly ℤ) → Type 0
IsAtRightAngle s v a = (n : ℕ) (k p : ℕ → ℤ) → s ≤ n → value_at s n k p (dot v a) ≡ pos 0

abbrev pub IsAcross : ℕ → Face → List (Poly ℤ) → Type 0
IsAcross s (flat on n) v = Unit {0}
IsAcross s (side on to t) v = IsAtRightAngle s v t × IsAtRightAngle s v (vector_difference on to)

abbrev pub space : Poly ℤ → Poly ℤ → Poly ℤ → List (Poly ℤ)
space x y z = x ∷ y ∷ z ∷ []

-- of every side that the line from (a, b, c) to (d, e, f) leaves along (x, y, z)
abbrev pub SideLaw : Type 0
SideLaw = (s : ℕ) (a b c d e f x y z : Poly ℤ) →
    let face = side (space a b c) (space d e f) (space x y z) in IsAcross s face (face_normal face)
