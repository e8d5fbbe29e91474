-- The bulge of an arc, as DXF has it: the tangent of a quarter of the angle that it sweeps, below 0 where it runs clockwise.
-- All numbers are units; each product and quotient is rounded to the nearest, and none is answered where one passes the limit.
use Rattle.std.specs.Prelude.{◌==◌, ◌-◌, ◌*◌, ◌^◌, ℕ, ℤ, pos, neg_ℤ, ◌+ℤ◌, ◌-ℤ◌, unsigned_abs, int_lt, Bool, List, [], ◌∷◌, Option, Some, None, option_and_then, option_map, if◌then◌else◌}
use Rattle.std.specs.Int.{is_negative}
use Rattle.sk_num.specs.Limit.{grid_of}
use Rattle.sk_num.specs.Rounding.{rounded_product, rounded_quotient}
use Rattle.sk_geom.specs.LineFrame.{units_at, all_of, rounded_minor, root_at}

-- from the centre to a point, in the plane
unfoldable pub spoke : List ℤ → List ℤ → Option (List ℤ)
spoke c p = all_of (grid_of (units_at p 0 -ℤ units_at c 0) ∷ grid_of (units_at p 1 -ℤ units_at c 1) ∷ [])

-- a b + c d
unfoldable pub rounded_pair : ℕ → ℤ → ℤ → ℤ → ℤ → Option ℤ
rounded_pair s a b c d = option_and_then (λ x. option_and_then (λ y. grid_of (x +ℤ y)) (rounded_product s c d)) (rounded_product s a b)

abbrev pub flat_dot : ℕ → List ℤ → List ℤ → Option ℤ
flat_dot s a b = rounded_pair s (units_at a 0) (units_at b 0) (units_at a 1) (units_at b 1)

-- a.u b.v - a.v b.u
abbrev pub flat_minor : ℕ → List ℤ → List ℤ → Option ℤ
flat_minor s a b = rounded_minor s (units_at a 0) (units_at b 1) (units_at a 1) (units_at b 0)

-- none also where the divisor is 0
unfoldable pub ratio : ℕ → ℤ → ℤ → Option ℤ
ratio s n d = if unsigned_abs d == 0 then None else rounded_quotient s n d

abbrev pub negated_if : Bool → ℤ → ℤ
negated_if t z = if t then neg_ℤ z else z

-- brought into -1 to 1
unfoldable pub clamped : ℕ → ℤ → ℤ
clamped s z = if int_lt (pos (2 ^ s)) z then pos (2 ^ s) else if int_lt z (neg_ℤ (pos (2 ^ s))) then neg_ℤ (pos (2 ^ s)) else z

-- K, the cosine of the angle from a to b: a . b over a . a; none where a has no length
unfoldable pub sweep_cosine : ℕ → List ℤ → List ℤ → Option ℤ
sweep_cosine s a b = option_and_then (λ square. option_and_then (λ d. option_map (clamped s) (ratio s d square)) (flat_dot s a b)) (flat_dot s a a)

-- the root of half of z
abbrev pub half_root : ℕ → ℤ → Option ℤ
half_root s z = option_and_then (root_at s) (rounded_quotient s z (pos (2 * 2 ^ s)))

-- P, the cosine of half the angle: the root of (1 + K) / 2, below 0 where the arc sweeps over half a turn
unfoldable pub half_cosine : ℕ → Bool → ℤ → Option ℤ
half_cosine s wide k = option_map (negated_if wide) (option_and_then (half_root s) (grid_of (pos (2 ^ s) +ℤ k)))

-- 2^-24, in units
abbrev pub least_sine : ℕ → ℕ
least_sine s = 2 ^ (s - 24)

abbrev pub from_least : ℕ → ℤ → Option ℤ
from_least s h = if int_lt h (pos (least_sine s)) then None else Some h

-- H, the sine of half the angle: the root of (1 - K) / 2; none where it is below 2^-24
unfoldable pub half_sine : ℕ → ℤ → Option ℤ
half_sine s k = option_and_then (from_least s) (option_and_then (half_root s) (grid_of (pos (2 ^ s) -ℤ k)))

-- H / (1 + P), or the same number as (1 - P) / H
unfoldable pub quarter_tangent : ℕ → ℤ → ℤ → Option ℤ
quarter_tangent s p h =
    if is_negative p then option_and_then (λ d. ratio s d h) (grid_of (pos (2 ^ s) -ℤ p))
    else option_and_then (ratio s h) (grid_of (pos (2 ^ s) +ℤ p))

-- the bulge of the arc from a to b round its normal, counterclockwise; backward where its normal goes against the plane's
unfoldable pub bulge_between : ℕ → Bool → List ℤ → List ℤ → Option ℤ
bulge_between s backward a b =
    option_and_then (λ k. option_and_then (λ c. option_and_then (λ p. option_and_then (λ h.
    option_map (negated_if backward) (quarter_tangent s p h))
    (half_sine s k)) (half_cosine s (is_negative (negated_if backward c)) k)) (flat_minor s a b)) (sweep_cosine s a b)

-- the same by centre, start and end
unfoldable pub bulge : ℕ → Bool → List ℤ → List ℤ → List ℤ → Option ℤ
bulge s backward centre start end =
    option_and_then (λ a. option_and_then (λ b. bulge_between s backward a b) (spoke centre end)) (spoke centre start)
