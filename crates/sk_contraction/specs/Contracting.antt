-- When a system of m rows and m columns contracts about a centre x.
-- A point's coordinates stand over 2^n, its residuals over 2^(n D), slopes over g = 2^(n (D - 1)), the cells of the matrix
-- y over u = 2^s, and w u = 2^n. The radius of a column is r, in units of 2^-s. b bounds the row sums of slopes.
use Rattle.std.specs.Prelude.{◌≡◌, ℕ, ◌<◌, ◌≤◌, ◌*◌, ℤ, pos, ◌-ℤ◌, ◌*ℤ◌, unsigned_abs}
use Rattle.sk_num.specs.Sums.{sum_to, total_to}
use Rattle.sk_contraction.specs.Rest.{rest}

-- for points of any type: their coordinates, residuals, slopes between two of them, and which lie in the box
pub record Contracting (Pt : Type 0) (at f : Pt → ℕ → ℤ) (a : Pt → Pt → ℕ → ℕ → ℤ) (In : Pt → Type 0) (m u w g b : ℕ) (y : ℕ → ℕ → ℤ) (r : ℕ → ℕ) (x : Pt) : Type 0 where
  pub scale : 0 < u
  pub slope_scale : 0 < g
  pub centre : In x
  pub within : (p : Pt) → In p → (j : ℕ) → j < m → unsigned_abs (at p j -ℤ at x j) ≤ r j * w
  pub moved : (v : ℕ → ℤ) → ((j : ℕ) → j < m → unsigned_abs (v j -ℤ at x j) ≤ r j * w) → (q : Pt) × In q × ((j : ℕ) → j < m → at q j ≡ v j)
  pub slope : (p q : Pt) → In p → In q → (i : ℕ) → i < m → f q i -ℤ f p i ≡ sum_to m (λ j. a p q i j *ℤ (at q j -ℤ at p j))
  pub start : (j : ℕ) → j < m → 2 * unsigned_abs (sum_to m (λ i. y j i *ℤ f x i)) ≤ r j * w * (u * g)
  pub left : (p q : Pt) → In p → In q → (j : ℕ) → j < m → 2 * total_to m (λ k. unsigned_abs (rest m (pos (u * g)) y (a p q) j k) * r k) ≤ u * g * r j
  pub right : (p q : Pt) → In p → In q → (i : ℕ) → i < m → 2 * total_to m (λ l. unsigned_abs (rest m (pos (u * g)) (a p q) y i l)) ≤ u * g
  pub rows : (p q : Pt) → In p → In q → (i : ℕ) → i < m → total_to m (λ j. unsigned_abs (a p q i j)) ≤ b * g
