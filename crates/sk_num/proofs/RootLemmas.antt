-- The root of a square.
use Rattle.std.proofs.Common.{◌≡◌, ℕ, ◌^◌, ◌<◌, ◌≤◌, ◌+◌, ◌*◌, ℤ, pos, negsuc, ◌≤ℤ◌, ◌*ℤ◌, arith, ⊎_elim}
use Rattle.std.proofs.lemmas.Int.{ints}
use Rattle.std.proofs.lemmas.Bool.{cases_lt}
use Rattle.std.proofs.Math.Nat.{mul-le-mul}
use Rattle.std.proofs.Math.IntN.{pos-*ℤ-pos}
use Rattle.sk_num.specs.Rounding.{IsRoot}

-- of two numbers, the one with the smaller square is the smaller
square_below : (z r n : ℕ) → z * z ≤ n → n < (r + 1) * (r + 1) → z ≤ r
square_below z r n h k =
    ⊎_elim (λ (l : r < z). let m : (r + 1) * (r + 1) ≤ z * z = mul-le-mul (omega arith) (omega arith) in absurd (omega (arith, m, h, k))) (λ (l : z ≤ r). l) (cases_lt r z)

pub root_is : (s : ℕ) (a : ℤ) (n r : ℕ) → a *ℤ pos (2 ^ s) ≡ pos n → r * r ≤ n → n < (r + 1) * (r + 1) → IsRoot s a (pos r)
root_is s a n r e below above = record { below = rw (e, pos-*ℤ-pos r r) (omega (arith, ints, below)); greatest = greatest }
  where
    greatest : (z : ℤ) → (z *ℤ z) ≤ℤ (a *ℤ pos (2 ^ s)) → z ≤ℤ pos r
    greatest (pos z) h = let k : z * z ≤ n = omega (arith, ints, h, e, pos-*ℤ-pos z z) in omega (arith, ints, square_below z r n k above)
    greatest (negsuc z) h = omega (arith, ints)

pub root_small : (r n : ℕ) → r * r ≤ n → n ≤ 2 ^ 106 → r ≤ 2 ^ 53
root_small r n h k =
    let top : 2 ^ 106 < (2 ^ 53 + 1) * (2 ^ 53 + 1) = omega arith in
    square_below r (2 ^ 53) (2 ^ 106) (omega (arith, h, k)) top
