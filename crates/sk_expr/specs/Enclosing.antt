-- What the spans of values and slopes enclose: at every precision from the scale on the exact value at each point of the box,
-- and the exact slope between any two.
use Rattle.std.specs.Prelude.{◌≡◌, ℕ, ◌≤◌, ◌-◌, ◌*◌, ℤ, List, get_or, slice_get, Some}
use Rattle.sk_num.specs.Ends.{Ends}
use Rattle.sk_num.specs.Enclosed.{Encloses}
use Rattle.sk_expr.specs.Poly.{Poly, degree}
use Rattle.sk_expr.specs.ExactValue.{value_at, slope_at}
use Rattle.sk_expr.specs.SpanLaws.{EnclosesEach}

pub record EnclosesValue (s : ℕ) (us cs : List Ends) (t : Poly ℤ) (e : Ends) : Type 0 where
  pub at_points : (n : ℕ) → s ≤ n → (k p : ℕ → ℤ) → EnclosesEach s n us p → EnclosesEach s n cs k → Encloses s (n * degree t) e (value_at s n k p t)

pub record EnclosesSlope (s : ℕ) (us cs : List Ends) (c : ℕ) (t : Poly ℤ) (e : Ends) : Type 0 where
  pub at_points : (n : ℕ) → s ≤ n → (k p q : ℕ → ℤ) → EnclosesEach s n us p → EnclosesEach s n us q → EnclosesEach s n cs k → Encloses s (n * (degree t - 1)) e (slope_at s n k p q c t)

-- the spans es are of the values of the trees that f gives for xs
pub record EnclosesValues (s : ℕ) (us cs : List Ends) (f : ℕ → Poly ℤ) (xs : List ℕ) (es : List Ends) : Type 0 where
  pub each : (i : ℕ) (e : Ends) → slice_get es i ≡ Some e → EnclosesValue s us cs (f (get_or xs i 0)) e

-- the spans es are of the slopes in the columns ks
pub record EnclosesSlopes (s : ℕ) (us cs : List Ends) (t : Poly ℤ) (ks : List ℕ) (es : List Ends) : Type 0 where
  pub each : (i : ℕ) (e : Ends) → slice_get es i ≡ Some e → EnclosesSlope s us cs (get_or ks i 0) t e
