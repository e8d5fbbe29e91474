-- The root by bits is the root rounded down.
use Rattle.std.proofs.Common.{◌≡◌, ℕ, zero, suc, ◌+◌, ◌*◌, ◌/◌, ◌^◌, ◌≤◌, ◌<◌, Bool, true, false, arith, refl}
use Rattle.std.specs.Prelude.{nat_le, if◌then◌else◌}
use Rattle.std.proofs.lemmas.Bool.Decides.{nat_tests}
use Rattle.sk_expr.specs.Readings.{root_by, floor_root}

pick-below : (b : Bool) (m n : ℕ) → nat_le ((2 * m + 1) * (2 * m + 1)) n ≡ b → m * m ≤ n / 4 →
    (if b then 2 * m + 1 else 2 * m) * (if b then 2 * m + 1 else 2 * m) ≤ n
pick-below true m n e h = grind (arith, nat_tests)
pick-below false m n e h = grind arith

below-step : (m n : ℕ) → m * m ≤ n / 4 → (let r = 2 * m in let q = if nat_le ((r + 1) * (r + 1)) n then r + 1 else r in q * q ≤ n)
below-step m n h = pick-below (nat_le ((2 * m + 1) * (2 * m + 1)) n) m n refl h

pub root_by-below : (k n : ℕ) → root_by k n * root_by k n ≤ n
root_by-below zero n = omega arith
root_by-below (suc k) n = below-step (root_by k (n / 4)) n (root_by-below k (n / 4))

above-step : (m n : ℕ) → n / 4 < (m + 1) * (m + 1) → (let r = 2 * m in let q = if nat_le ((r + 1) * (r + 1)) n then r + 1 else r in n < (q + 1) * (q + 1))
above-step m n h = grind (arith, nat_tests)

small-quarter : (k n : ℕ) → n < 4 ^ suc k → n / 4 < 4 ^ k
small-quarter k n h = grind arith

pub root_by-above : (k n : ℕ) → n < 4 ^ k → n < (root_by k n + 1) * (root_by k n + 1)
root_by-above zero n h = omega (arith, h)
root_by-above (suc k) n h = above-step (root_by k (n / 4)) n (root_by-above k (n / 4) (small-quarter k n h))

pub same_root : (n r q : ℕ) → r * r ≤ n → n < (r + 1) * (r + 1) → q * q ≤ n → n < (q + 1) * (q + 1) → r ≡ q
same_root n r q a b c d = grind arith

pub floor_root-is : (n r : ℕ) → n ≤ 2 ^ 126 → r * r ≤ n → n < (r + 1) * (r + 1) → r ≡ floor_root n
unfolding floor_root
floor_root-is n r m a b =
    let h : n < 4 ^ 64 = omega (arith, m) in
    same_root n r (root_by 64 n) a b (root_by-below 64 n) (root_by-above 64 n h)
