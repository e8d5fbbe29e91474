-- A half is within the limit.
use Rattle.std.proofs.Common.{◌≡◌, ℕ, ◌-◌, ◌≤◌, ◌^◌, refl, ap, ◌∙◌, arith, lit≤}
use Rattle.std.specs.Prelude.{ℤ, pos, neg_ℤ, unsigned_abs, unwrap_or}
use Rattle.std.proofs.lemmas.Bool.{le-leb}
use Rattle.std.proofs.lemmas.Int.{ints}
use Rattle.std.proofs.Math.Nat.{pow-le-pow_right}
use Rattle.sk_num.specs.Limit.{IsInLimit, grid_of}
use Rattle.sk_num.specs.Scale.{IsScale, IsScale-bounds}

pub small-half : (s : ℕ) → IsScale s → 2 ^ (s - 1) ≤ 2 ^ 44
small-half s scale = let bounds = IsScale-bounds scale in let most : s - 1 ≤ 44 = omega (arith, bounds) in pow-le-pow_right (lit≤ tt) most

grid-in : (z : ℤ) → IsInLimit z → unwrap_or (grid_of z) (pos 0) ≡ z
grid-in z h = rw (le-leb (unsigned_abs z) (2 ^ 62) h) refl

half-in : (s : ℕ) → IsScale s → IsInLimit (pos (2 ^ (s - 1)))
half-in s scale = let h = small-half s scale in omega (arith, h)

minus-in : (s : ℕ) → IsScale s → IsInLimit (neg_ℤ (pos (2 ^ (s - 1))))
minus-in s scale = let h = small-half s scale in omega (arith, ints, h)

pub half-read : (s : ℕ) → IsScale s → (u r : ℤ) → r ≡ unwrap_or (grid_of u) (pos 0) → u ≡ pos (2 ^ (s - 1)) → r ≡ pos (2 ^ (s - 1))
half-read s scale u r e is = e ∙ ap (λ (z : ℤ). unwrap_or (grid_of z) (pos 0)) is ∙ grid-in (pos (2 ^ (s - 1))) (half-in s scale)

pub minus-read : (s : ℕ) → IsScale s → (u r : ℤ) → r ≡ unwrap_or (grid_of u) (pos 0) → u ≡ neg_ℤ (pos (2 ^ (s - 1))) → r ≡ neg_ℤ (pos (2 ^ (s - 1)))
minus-read s scale u r e is = e ∙ ap (λ (z : ℤ). unwrap_or (grid_of z) (pos 0)) is ∙ grid-in (neg_ℤ (pos (2 ^ (s - 1)))) (minus-in s scale)
