-- The rule of the enclosed cosine: angles as numbers of units of 2^-s degree, what follows in
-- units of 2^-60.
use Rattle.std.proofs.Common.{arith}
use Rattle.std.specs.Prelude.{◌≡◌, ℕ, suc, zero, ◌+◌, ◌-◌, ◌*◌, ◌/◌, ◌^◌, ℤ, pos, neg_ℤ, ◌-ℤ◌, ◌*ℤ◌, nat_le, unsigned_abs, Bool, not, if◌then◌else◌}
use Rattle.sk_num.specs.Division.{floor_by, ceil_by}
use Rattle.sk_num.specs.Ends.{Ends}

-- a / k, rounded up
abbrev pub quotient_up : ℕ → ℕ → ℕ
quotient_up a k = (a + (k - 1)) / k

-- ---- the fold: 360 degrees less an angle over 180, then 180 degrees less one over 90

abbrev pub within_half : ℕ → ℕ → ℕ
within_half s d = if nat_le d (180 * 2 ^ s) then d else 360 * 2 ^ s - d

abbrev pub within_quarter : ℕ → ℕ → ℕ
within_quarter s h = if nat_le h (90 * 2 ^ s) then h else 180 * 2 ^ s - h

-- the angle from 0 to 90 degrees
abbrev pub folded : ℕ → ℕ → ℕ
folded s d = within_quarter s (within_half s d)

-- whether the cosine is that of the folded angle with the other sign
abbrev pub is_turned : ℕ → ℕ → Bool
is_turned s d = not (nat_le (within_half s d) (90 * 2 ^ s))

-- ---- the radian and its square: pi lies between p / 10^20 and (p + 1) / 10^20

abbrev pub pi_digits : ℕ
pi_digits = 314159265358979323846

-- how many units of the angle, times pi_digits, are four units of the radian: 9 * 5^21 at the scale 36
abbrev pub radian_unit : ℕ → ℕ
radian_unit s = 4291534423828125 * 2 ^ (s - 36)

abbrev pub radian_low : ℕ → ℕ → ℕ
radian_low s d = 4 * d * pi_digits / radian_unit s

abbrev pub radian_high : ℕ → ℕ → ℕ
radian_high s d = quotient_up (4 * d * (pi_digits + 1)) (radian_unit s)

abbrev pub square_low : ℕ → ℕ
square_low r = r * r / 2 ^ 60

abbrev pub square_high : ℕ → ℕ
square_high r = quotient_up (r * r) (2 ^ 60)

-- ---- the Taylor sum: 1 - y/(1 2) (1 - y/(3 4) (1 - .. )), from the inmost bracket outward

-- (2 j - 1) (2 j)
abbrev pub divisor : ℕ → ℕ
divisor j = (2 * j - 1) * (2 * j)

abbrev pub part_down : ℕ → ℕ → ℤ → ℤ
part_down y k z = floor_by (floor_by (z *ℤ pos y) (2 ^ 60)) k

abbrev pub part_up : ℕ → ℕ → ℤ → ℤ
part_up y k z = ceil_by (ceil_by (z *ℤ pos y) (2 ^ 60)) k

abbrev pub bracket : ℕ → ℕ → Ends → Ends
bracket y k e = record { lo = pos (2 ^ 60) -ℤ part_up y k e.hi; hi = pos (2 ^ 60) -ℤ part_down y k e.lo }

abbrev pub ends : ℤ → ℤ → Ends
ends a b = record { lo = a; hi = b }

-- the brackets from the j-th to the first, about e
abbrev pub brackets : ℕ → ℕ → Ends → Ends
brackets y zero e = e
brackets y (suc j) e = brackets y j (bracket y (divisor (suc j)) e)

abbrev pub whole_one : Ends
whole_one = record { lo = pos (2 ^ 60); hi = pos (2 ^ 60) }

-- the sum of degree 2 n
abbrev pub taylor : ℕ → ℕ → Ends
taylor n y = brackets y n whole_one

-- ---- the span

-- the ends for the folded angle d, in units of 2^-s
abbrev pub folded_ends : ℕ → ℕ → Ends
folded_ends s d = record {
  lo = floor_by (Ends.lo (taylor 11 (square_high (radian_high s d)))) (2 ^ (60 - s));
  hi = ceil_by (Ends.hi (taylor 10 (square_low (radian_low s d)))) (2 ^ (60 - s));
}

abbrev pub turn : Bool → Ends → Ends
turn t e = if t then record { lo = neg_ℤ e.hi; hi = neg_ℤ e.lo } else e

abbrev pub cosine_ends : ℕ → ℤ → Ends
cosine_ends s g = turn (is_turned s (unsigned_abs g)) (folded_ends s (folded s (unsigned_abs g)))

pub radian_low-36 : (d : ℕ) → radian_low 36 d ≡ 4 * d * pi_digits / (9 * 5 ^ 21)
radian_low-36 d = omega arith

pub radian_high-36 : (d : ℕ) → radian_high 36 d ≡ quotient_up (4 * d * (pi_digits + 1)) (9 * 5 ^ 21)
radian_high-36 d = omega arith

-- at the scale 44 the radian's ends are quotients by 576 * 5^21
pub radian_low-44 : (d : ℕ) → radian_low 44 d ≡ d * pi_digits / (576 * 5 ^ 21)
radian_low-44 d = omega arith

pub radian_high-44 : (d : ℕ) → radian_high 44 d ≡ quotient_up (d * (pi_digits + 1)) (576 * 5 ^ 21)
radian_high-44 d = omega arith
