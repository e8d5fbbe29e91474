-- The cosine cut as exact fractions, and what a span must satisfy to enclose it.
use Rattle.std.specs.Prelude.{ℕ, suc, zero, ◌+◌, ◌*◌, ◌^◌, ◌≤◌, ℤ, pos, neg_ℤ, ◌+ℤ◌, ◌*ℤ◌, ◌≤ℤ◌, unsigned_abs}
use Rattle.sk_num.specs.Ends.{Ends}
use Rattle.sk_cosine.specs.Rule.{divisor, pi_digits, radian_low, radian_high, square_low, square_high, folded, is_turned, turn}

-- The Taylor sum of degree 2 n at x = y / 2^60, that is 1 - x/2! + x^2/4! - .. up to x^n / (2 n)!,
-- is sum_top y n over sum_under n; sum_under n is 2^(60 n) (2 n)!.
unfoldable pub sum_under : ℕ → ℕ
sum_under zero = 1
sum_under (suc n) = sum_under n * (2 ^ 60 * divisor (suc n))

-- (- y)^n
unfoldable pub minus_power : ℕ → ℕ → ℤ
minus_power y zero = pos 1
minus_power y (suc n) = neg_ℤ (minus_power y n *ℤ pos y)

unfoldable pub sum_top : ℕ → ℕ → ℤ
sum_top y zero = pos 1
sum_top y (suc n) = sum_top y n *ℤ pos (2 ^ 60 * divisor (suc n)) +ℤ minus_power y (suc n)

-- y / 2^60 bounds the square of the radian of d, d p / (180 2^s q), for each value p / q of pi
-- between pi_digits / 10^20 and (pi_digits + 1) / 10^20
pub record BoundsSquare (s d low high : ℕ) : Type 0 where
  pub below : (p q : ℕ) → pi_digits * q ≤ p * 10 ^ 20 → p * 10 ^ 20 ≤ (pi_digits + 1) * q →
      low * ((180 * 2 ^ s * q) * (180 * 2 ^ s * q)) ≤ 2 ^ 60 * ((d * p) * (d * p))
  pub above : (p q : ℕ) → pi_digits * q ≤ p * 10 ^ 20 → p * 10 ^ 20 ≤ (pi_digits + 1) * q →
      2 ^ 60 * ((d * p) * (d * p)) ≤ high * ((180 * 2 ^ s * q) * (180 * 2 ^ s * q))

-- e, in units of 2^-s, encloses the numbers from the sum of degree 22 at high to that of degree 20 at low
pub record EnclosesCut (s low high : ℕ) (e : Ends) : Type 0 where
  pub from : (e.lo *ℤ pos (sum_under 11)) ≤ℤ (sum_top high 11 *ℤ pos (2 ^ s))
  pub to : (sum_top low 10 *ℤ pos (2 ^ s)) ≤ℤ (e.hi *ℤ pos (sum_under 10))

-- The law of the cosine of g units: for the folded angle the square's bounds are such, and the span,
-- its sign turned back, encloses the cut.
pub record CosineCut (s : ℕ) (g : ℤ) (e : Ends) : Type 0 where
  pub square : let d = folded s (unsigned_abs g) in BoundsSquare s d (square_low (radian_low s d)) (square_high (radian_high s d))
  pub cut : let d = folded s (unsigned_abs g) in
      EnclosesCut s (square_low (radian_low s d)) (square_high (radian_high s d)) (turn (is_turned s (unsigned_abs g)) e)

-- The law of a narrower pi: a span that encloses the cut between two squares encloses that between
-- any two within them, up to 5/2, which the square of a right angle's radian doesn't pass.
abbrev pub NarrowerLaw : Type 0
NarrowerLaw = (s low high low' high' : ℕ) (e : Ends) → high ≤ 5 * 2 ^ 59 → low ≤ low' → low' ≤ high' → high' ≤ high → EnclosesCut s low high e → EnclosesCut s low' high' e
