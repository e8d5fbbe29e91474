-- A span as its two ends, in units, and the operations on spans (Neumaier, Interval Methods for
-- Systems of Equations, chapter 1: interval arithmetic rounded outward).
use Rattle.std.specs.Prelude.{ℕ, max, ℤ, ◌+ℤ◌, ◌-ℤ◌, ◌*ℤ◌, ◌≤ℤ◌, unsigned_abs, ◌&&◌, if◌then◌else◌, Option, Some, None}
use Rattle.std.specs.Int.{int_min, int_max}
use Rattle.sk_num.specs.Division.{floor_by}
use Rattle.sk_num.specs.Limit.{IsInLimit, is_in_limit}
use Rattle.sk_num.specs.Rounding.{floor_at, ceil_at}

pub record Ends : Type 0 where
  pub lo : ℤ
  pub hi : ℤ

-- lo is at most hi, and both are grid numbers
pub record IsOrdered (lo hi : ℤ) : Type 0 where
  pub ordered : lo ≤ℤ hi
  pub lo_in : IsInLimit lo
  pub hi_in : IsInLimit hi

-- the span of one number
abbrev pub point : ℤ → Ends
point z = record { lo = z; hi = z }

-- the span from lo to hi, none where an end passes the limit
abbrev pub span_between : ℤ → ℤ → Option Ends
span_between lo hi = if is_in_limit lo && is_in_limit hi then Some (record { lo = lo; hi = hi }) else None

abbrev pub span_add : Ends → Ends → Option Ends
span_add a b = span_between (a.lo +ℤ b.lo) (a.hi +ℤ b.hi)

abbrev pub span_sub : Ends → Ends → Option Ends
span_sub a b = span_between (a.lo -ℤ b.hi) (a.hi -ℤ b.lo)

abbrev pub least_product : Ends → Ends → ℤ
least_product a b = int_min (int_min (a.lo *ℤ b.lo) (a.lo *ℤ b.hi)) (int_min (a.hi *ℤ b.lo) (a.hi *ℤ b.hi))

abbrev pub greatest_product : Ends → Ends → ℤ
greatest_product a b = int_max (int_max (a.lo *ℤ b.lo) (a.lo *ℤ b.hi)) (int_max (a.hi *ℤ b.lo) (a.hi *ℤ b.hi))

-- the least product of ends rounded down, the greatest rounded up
abbrev pub span_mul : ℕ → Ends → Ends → Option Ends
span_mul s a b = span_between (floor_at s (least_product a b)) (ceil_at s (greatest_product a b))

-- the greatest absolute end
abbrev pub mag : Ends → ℕ
mag e = max (unsigned_abs e.lo) (unsigned_abs e.hi)

-- half the sum of the ends, rounded down
abbrev pub mid : Ends → ℤ
mid e = floor_by (e.lo +ℤ e.hi) 2
