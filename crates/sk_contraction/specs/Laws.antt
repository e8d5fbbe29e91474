-- What this crate's functions promise.
use Rattle.std.specs.Prelude.{ℕ, ◌<◌, ◌≤◌, ◌*◌, ℤ, ◌-ℤ◌, unsigned_abs}
use Rattle.sk_num.specs.Sums.{total_to}
use Rattle.sk_contraction.specs.Contracting.{Contracting}

-- The point q of the box has residuals of at most 4 b units.
abbrev pub IsSettled : (Pt : Type 0) (f : Pt → ℕ → ℤ) (In : Pt → Type 0) (m b g : ℕ) → Pt → Type 0
IsSettled Pt f In m b g q = In q × ((i : ℕ) → i < m → unsigned_abs (f q i) ≤ 4 * (b * g))

-- A box that contracts holds a settled point. Two settled points lie within 16 b c o units in each column, where c bounds
-- the row sums of y, and o the ratio of two radii.
pub record Contracts (Pt : Type 0) (at f : Pt → ℕ → ℤ) (a : Pt → Pt → ℕ → ℕ → ℤ) (In : Pt → Type 0) (m u w g b : ℕ) (y : ℕ → ℕ → ℤ) (r : ℕ → ℕ) (x : Pt) : Type 0 where
  pub settles : (q : Pt) × IsSettled Pt f In m b g q
  pub close : (c o : ℕ) → ((j : ℕ) → j < m → 0 < r j) → ((j k : ℕ) → j < m → k < m → r k ≤ o * r j)
      → ((j : ℕ) → j < m → total_to m (λ i. unsigned_abs (y j i)) ≤ c * u)
      → (p q : Pt) → IsSettled Pt f In m b g p → IsSettled Pt f In m b g q
      → (k : ℕ) → k < m → unsigned_abs (at q k -ℤ at p k) ≤ 16 * (b * c * o)

-- the points that lie within their reach of x in each of n coordinates
pub record IsInReach (n : ℕ) (reach : ℕ → ℕ) (x p : ℕ → ℤ) : Type 0 where
  pub near : (c : ℕ) → c < n → unsigned_abs (p c -ℤ x c) ≤ reach c

-- for points as their coordinates, of which the columns are some
abbrev pub ContractionLaw : Type 0
ContractionLaw = (n : ℕ) (reach : ℕ → ℕ) (column : ℕ → ℕ) (f : (ℕ → ℤ) → ℕ → ℤ) (a : (ℕ → ℤ) → (ℕ → ℤ) → ℕ → ℕ → ℤ) (m u w g b : ℕ) (y : ℕ → ℕ → ℤ) (r : ℕ → ℕ) (x : ℕ → ℤ)
    → Contracting (ℕ → ℤ) (λ p j. p (column j)) f a (IsInReach n reach x) m u w g b y r x
    → Contracts (ℕ → ℤ) (λ p j. p (column j)) f a (IsInReach n reach x) m u w g b y r x
