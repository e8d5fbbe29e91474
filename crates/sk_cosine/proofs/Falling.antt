-- The Taylor sums fall: at a greater square, up to 5/2, they are less.
use Rattle.std.proofs.Common.{◌≡◌, ℕ, zero, suc, ◌+◌, ◌-◌, ◌*◌, ◌^◌, ◌≤◌, arith, ap, sym, ◌∙◌, subst, ℤ, pos, ◌*ℤ◌, ◌≤ℤ◌}
use Rattle.std.proofs.lemmas.Int.{ints}
use Rattle.std.proofs.Math.Nat.{mul-le-mul, mul-le-mul_left, mul-le-mul_right}
use Rattle.std.proofs.Math.IntN.{pos-*ℤ-pos}
use Rattle.sk_num.specs.Whole.{*ℤ-le_pos}
use Rattle.sk_cosine.specs.Rule.{divisor}
use Rattle.sk_cosine.specs.Cut.{sum_top, sum_under, NarrowerLaw}
use Rattle.sk_cosine.proofs.Exact.{Part, exact_bracket, exact_brackets, top-is}

-- brackets p / u at y and q / u at y + d: the one times y is at most the other times y + d, by at most d
record Falls (y d u p q : ℕ) : Type 0 where
  p_in : p ≤ u
  q_in : q ≤ u
  below : p * y ≤ q * (y + d)
  above : q * (y + d) ≤ p * y + d * u

-- one bracket more, where its divisor c is at least 2 y + d
onward : (y d u p q c : ℕ) → 2 * y + d ≤ c → Falls y d u p q →
    (p * y ≤ u * c) × (q * (y + d) ≤ u * c) × Falls y d (u * c) (u * c - p * y) (u * c - q * (y + d))
onward y d u p q c small h =
    let g = q * (y + d) - p * y in
    let b : q * (y + d) ≤ u * (y + d) = mul-le-mul_right (y + d) h.q_in in
    let t : u * (2 * y + d) ≤ u * c = mul-le-mul_left u small in
    let parts : u * (2 * y + d) ≡ u * y + u * (y + d) = grind arith in
    let fits : q * (y + d) ≤ u * c = omega (arith, b, t, parts) in
    let r = u * c - q * (y + d) in
    let room : u * y ≤ r = omega (arith, b, t, parts) in
    let gap : g ≤ d * u = omega (arith, h.below, h.above) in
    let first : g * y ≤ d * u * y = mul-le-mul_right y gap in
    let second : d * (u * y) ≤ d * r = mul-le-mul_left d room in
    let same : d * u * y ≡ d * (u * y) = grind arith in
    let whole : u * c - p * y ≡ r + g = omega (arith, h.below, fits) in
    let left : (r + g) * y ≡ r * y + g * y = grind arith in
    let right : r * (y + d) ≡ r * y + d * r = grind arith in
    let sum : u * c ≡ r + q * (y + d) = omega (arith, fits) in
    let product : d * (u * c) ≡ d * r + d * (q * (y + d)) = ap (λ n. d * n) sum ∙ spread d r (q * (y + d)) in (
      omega (arith, h.below, fits),
      fits,
      record {
        p_in = omega arith;
        q_in = omega arith;
        below = subst (λ n. n * y ≤ r * (y + d)) (sym whole) (omega (arith, left, right, first, second, same));
        above = subst (λ n. r * (y + d) ≤ n * y + d * (u * c)) (sym whole) (omega (arith, left, right, product));
      },
    )
  where
    spread : (d r b : ℕ) → d * (r + b) ≡ d * r + d * b
    spread d r b = grind arith

bracket-top : (y k u p : ℕ) → p * y ≤ u * (2 ^ 60 * k) → Part.top (exact_bracket y k (record { top = pos p; under = u })) ≡ pos (u * (2 ^ 60 * k) - p * y)
bracket-top y k u p h = let e = pos-*ℤ-pos p y in omega (arith, ints, e, h)

divisor-large : (i : ℕ) → 12 ≤ divisor (suc (suc i))
divisor-large i =
    let a : 3 ≤ 2 * suc (suc i) - 1 = omega arith in
    let b : 4 ≤ 2 * suc (suc i) = omega arith in
    mul-le-mul a b

tops-fall : (j y d u p q : ℕ) → y + d ≤ 5 * 2 ^ 59 → Falls y d u p q →
    Part.top (exact_brackets (y + d) (suc j) (record { top = pos q; under = u })) ≤ℤ Part.top (exact_brackets y (suc j) (record { top = pos p; under = u }))
tops-fall zero y d u p q small h =
    let e = pos-*ℤ-pos p y in
    let f = pos-*ℤ-pos q (y + d) in
    omega (arith, ints, e, f, h.below)
tops-fall (suc i) y d u p q small h =
    let k = divisor (suc (suc i)) in
    let large : 2 ^ 60 * 12 ≤ 2 ^ 60 * k = mul-le-mul_left (2 ^ 60) (divisor-large i) in
    let (a, b, next) = onward y d u p q (2 ^ 60 * k) (omega (arith, small, large)) h in
    let top : (x t v : ℕ) → t * x ≤ v * (2 ^ 60 * k) → exact_bracket x k (record { top = pos t; under = v }) ≡ record { top = pos (v * (2 ^ 60 * k) - t * x); under = v * (2 ^ 60 * k) } =
    λ x t v l. ap (λ (z : ℤ). record { top = z; under = v * (2 ^ 60 * k) }) (bracket-top x k v t l) in
    let v = u * (2 ^ 60 * k) in
    let p' = v - p * y in
    let q' = v - q * (y + d) in
    subst (λ (r : Part). Part.top (exact_brackets (y + d) (suc i) r) ≤ℤ Part.top (exact_brackets y (suc i) (exact_bracket y k (record { top = pos p; under = u })))) (sym (top (y + d) q u b))
    (subst (λ (r : Part). Part.top (exact_brackets (y + d) (suc i) (record { top = pos q'; under = v })) ≤ℤ Part.top (exact_brackets y (suc i) r)) (sym (top y p u a))
    (tops-fall i y d v p' q' small next))

-- the sum of degree 2 (j + 1) at y + d is at most that at y
sums-fall : (j y d : ℕ) → y + d ≤ 5 * 2 ^ 59 → sum_top (y + d) (suc j) ≤ℤ sum_top y (suc j)
sums-fall j y d small =
    let h : Falls y d 1 1 1 = record { p_in = omega arith; q_in = omega arith; below = omega arith; above = omega arith } in
    rw (← top-is (y + d) (suc j), ← top-is y (suc j)) (tops-fall j y d 1 1 1 small h)

sums-fall_to : (j y z : ℕ) → y ≤ z → z ≤ 5 * 2 ^ 59 → sum_top z (suc j) ≤ℤ sum_top y (suc j)
sums-fall_to j y z l small =
    let e : y + (z - y) ≡ z = omega arith in
    subst (λ n. sum_top n (suc j) ≤ℤ sum_top y (suc j)) e (sums-fall j y (z - y) (omega arith))

≤ℤ-through : (a b c : ℤ) → a ≤ℤ b → b ≤ℤ c → a ≤ℤ c
≤ℤ-through a b c h k = omega (arith, ints, h, k)

pub narrower : NarrowerLaw
narrower s low high low' high' e small above within below h = record {
  from = ≤ℤ-through (e.lo *ℤ pos (sum_under 11)) (sum_top high 11 *ℤ pos (2 ^ s)) (sum_top high' 11 *ℤ pos (2 ^ s)) h.from
      (*ℤ-le_pos (2 ^ s) (sum_top high 11) (sum_top high' 11) (sums-fall_to 10 high' high below small));
  to = ≤ℤ-through (sum_top low' 10 *ℤ pos (2 ^ s)) (sum_top low 10 *ℤ pos (2 ^ s)) (e.hi *ℤ pos (sum_under 10))
      (*ℤ-le_pos (2 ^ s) (sum_top low' 10) (sum_top low 10) (sums-fall_to 9 low low' above (omega (arith, within, below, small)))) h.to;
}
