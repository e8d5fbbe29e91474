-- Numbers of units from exact ones: rounded outward, or to the nearest.
use Rattle.std.specs.Prelude.{ℕ, ◌^◌, ◌<◌, ◌≤◌, ◌≢◌, ℤ, pos, ◌*ℤ◌, ◌≤ℤ◌, Option}
use Rattle.sk_num.specs.Division.{floor_by, ceil_by, nearest}
use Rattle.sk_num.specs.Limit.{grid_of}

-- z / 2^s, rounded down
abbrev pub floor_at : ℕ → ℤ → ℤ
floor_at s z = floor_by z (2 ^ s)

-- z / 2^s, rounded up
abbrev pub ceil_at : ℕ → ℤ → ℤ
ceil_at s z = ceil_by z (2 ^ s)

-- r is the greatest number of units whose square is at most a, both over 2^s
pub record IsRoot (s : ℕ) (a r : ℤ) : Type 0 where
  pub below : (r *ℤ r) ≤ℤ (a *ℤ pos (2 ^ s))
  pub greatest : (z : ℤ) → (z *ℤ z) ≤ℤ (a *ℤ pos (2 ^ s)) → z ≤ℤ r

-- b can be divided by, and bits can be shifted by that many places
pub record IsDivisor (b : ℤ) (places : ℕ) : Type 0 where
  pub not_zero : b ≢ pos 0
  pub from_one : 0 < places
  pub below : places ≤ 92

-- product and quotient of two numbers of units, to the nearest unit, halves away from zero; none past the limit
abbrev pub rounded_product : ℕ → ℤ → ℤ → Option ℤ
rounded_product s a b = grid_of (nearest (a *ℤ b) (pos (2 ^ s)))

abbrev pub rounded_quotient : ℕ → ℤ → ℤ → Option ℤ
rounded_quotient s a b = grid_of (nearest (a *ℤ pos (2 ^ s)) b)
