-- What the points that draw a cubic keep to: both ends, the bounds of the control points, and the order turned round.
use Rattle.std.specs.Prelude.{◌≡◌, ℕ, ◌-◌, ◌≤◌, ℤ, ◌≤ℤ◌, List, [], ◌∷◌, length}
use Rattle.std.specs.Int.{int_min, int_max}
use Rattle.sk_cubic.specs.CurvePoint.{curve_point}

-- x lies between the least and the greatest of four numbers
abbrev pub IsBetween : ℤ → ℤ → ℤ → ℤ → ℤ → Type 0
IsBetween a b c d x = (int_min (int_min a b) (int_min c d) ≤ℤ x) × (x ≤ℤ int_max (int_max a b) (int_max c d))

-- component by component
abbrev pub AreBetween : List ℤ → List ℤ → List ℤ → List ℤ → List ℤ → Type 0
AreBetween (a ∷ p) (b ∷ q) (c ∷ r) (d ∷ s) (x ∷ xs) = IsBetween a b c d x × AreBetween p q r s xs
AreBetween p q r s [] = Unit {0}
AreBetween p q r s (x ∷ xs) = ⊥

-- each component lies between the least and the greatest of the four control points'
abbrev pub IsInHull : List (List ℤ) → List ℤ → Type 0
IsInHull (p ∷ q ∷ r ∷ s ∷ []) xs = AreBetween p q r s xs
IsInHull ps xs = ⊥

-- p, q, r and s have n components each
abbrev pub AreOfLength : ℕ → List ℤ → List ℤ → List ℤ → List ℤ → Type 0
AreOfLength n p q r s = (length p ≡ n) × (length q ≡ n) × (length r ≡ n) × (length s ≡ n)

pub record CurveLaw : Type 0 where
  pub start : (n : ℕ) (p q r s : List ℤ) → AreOfLength n p q r s → curve_point (p ∷ q ∷ r ∷ s ∷ []) 0 ≡ p
  pub last : (n : ℕ) (p q r s : List ℤ) → AreOfLength n p q r s → curve_point (p ∷ q ∷ r ∷ s ∷ []) 16 ≡ s
  pub hull : (i : ℕ) (p q r s : List ℤ) → i ≤ 16 → IsInHull (p ∷ q ∷ r ∷ s ∷ []) (curve_point (p ∷ q ∷ r ∷ s ∷ []) i)
  pub reversed : (i : ℕ) (p q r s : List ℤ) → i ≤ 16 → curve_point (s ∷ r ∷ q ∷ p ∷ []) (16 - i) ≡ curve_point (p ∷ q ∷ r ∷ s ∷ []) i
