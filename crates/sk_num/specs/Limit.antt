-- The limit of grid numbers: 2^62 units either way.
use Rattle.std.specs.Prelude.{◌^◌, ◌≤◌, ℤ, unsigned_abs, Bool, nat_le, if◌then◌else◌, Option, Some, None}

abbrev pub IsInLimit : ℤ → Type 0
IsInLimit z = unsigned_abs z ≤ 2 ^ 62

abbrev pub is_in_limit : ℤ → Bool
is_in_limit z = nat_le (unsigned_abs z) (2 ^ 62)

-- the grid number of z units, none past the limit
abbrev pub grid_of : ℤ → Option ℤ
grid_of z = if is_in_limit z then Some z else None
