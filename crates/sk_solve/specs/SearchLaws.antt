-- What holds of every search.
use Rattle.std.specs.Prelude.{◌≡◌, ◌⊎◌, ℕ, List, [], ◌∷◌, length, get_or, ℤ, Some, Bool, true, false, not}
use Rattle.std.specs.List.{All}
use Rattle.sk_num.specs.Limit.{IsInLimit}
use Rattle.sk_expr.specs.Columns.{is_among}
use Rattle.sk_krawczyk.specs.IntervalTest.{Outcome, stops, fails, passes, Certificate}
use Rattle.sk_solve.specs.Search.{Verdict, Certified, Degenerate, Range, Unsolved, Found, stayed, certified_at, moved, search, visited}

-- the test passes at the kept point, with this certificate
pub record PassesAt (visit : List ℤ → Outcome) (r : Found) : Type 0 where
  pub solved : List ℕ
  pub step : List ℤ
  pub certificate : Certificate
  pub passed : visit r.point ≡ passes solved step certificate
  pub kept : r ≡ certified_at r.point certificate

abbrev pub is_certified : Verdict → Bool
is_certified Certified = true
is_certified Degenerate = false
is_certified Range = false
is_certified Unsolved = false

pub record StaysAt (x0 : List ℤ) (r : Found) : Type 0 where
  pub verdict : Verdict
  pub other : is_certified verdict ≡ false
  pub kept : r ≡ stayed verdict x0

abbrev pub is_passed : Outcome → Bool
is_passed (stops h) = false
is_passed (fails solved step) = false
is_passed (passes solved step c) = true

-- the test passes at none of these points
abbrev pub NonePasses : (List ℤ → Outcome) → List (List ℤ) → Type 0
NonePasses visit [] = Unit {0}
NonePasses visit (x ∷ xs) = (is_passed (visit x) ≡ false) × NonePasses visit xs

-- the column is held: where the test fails, it isn't among those that the step moves
abbrev pub is_held_by : ℕ → Outcome → Bool
is_held_by c (stops h) = true
is_held_by c (fails solved step) = not (is_among solved c)
is_held_by c (passes solved step k) = true

abbrev pub AllHold : (List ℤ → Outcome) → ℕ → List (List ℤ) → Type 0
AllHold visit c [] = Unit {0}
AllHold visit c (x ∷ xs) = (is_held_by c (visit x) ≡ true) × AllHold visit c xs

-- Certified, the test passes at the kept point; otherwise the start is kept. A search from the kept point comes out the same.
-- The kept point has as many numbers as the start, all within the limit. A step moves no column but those listed, so a
-- parameter that is held at each visited point where the test fails has its stored value.
pub record SearchLaw : Type 0 where
  pub kept : (visit : List ℤ → Outcome) (x0 : List ℤ) → PassesAt visit (search visit x0) ⊎ StaysAt x0 (search visit x0)
  pub again : (visit : List ℤ → Outcome) (x0 : List ℤ) → search visit (search visit x0).point ≡ search visit x0
  pub first : (visit : List ℤ → Outcome) (x0 : List ℤ) (solved : List ℕ) (step : List ℤ) (c : Certificate) → visit x0 ≡ passes solved step c → search visit x0 ≡ certified_at x0 c
  -- where the group isn't certified, the test passes at no visited point
  pub none : (visit : List ℤ → Outcome) (x0 : List ℤ) → is_certified (search visit x0).verdict ≡ false → NonePasses visit (visited visit x0)
  pub length : (visit : List ℤ → Outcome) (x0 : List ℤ) → length (search visit x0).point ≡ length x0
  pub limit : (visit : List ℤ → Outcome) (x0 : List ℤ) → All IsInLimit x0 → All IsInLimit (search visit x0).point
  pub held : (c : ℕ) (solved : List ℕ) (step x y : List ℤ) → is_among solved c ≡ false → moved solved step x ≡ Some y → (d : ℤ) → get_or y c d ≡ get_or x c d
  pub still : (visit : List ℤ → Outcome) (x0 : List ℤ) (c : ℕ) → AllHold visit c (visited visit x0) → (d : ℤ) → get_or (search visit x0).point c d ≡ get_or x0 c d
