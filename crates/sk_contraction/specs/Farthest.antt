-- Of finitely many numbers one is, against its own weight, the greatest.
use Rattle.std.proofs.Common.{◌≡◌, ℕ, suc, zero, ◌<◌, ◌≤◌, ◌*◌, arith, ◌⊎◌, ⊎_elim}
use Rattle.std.proofs.lemmas.Bool.{cases_lt}
use Rattle.std.proofs.Math.Nat.{mul-le-mul_right, le_of_mul-le-mul_right}

pub farthest : (n : ℕ) (d r : ℕ → ℕ) → 0 < n → ((i : ℕ) → i < n → 0 < r i) → (k : ℕ) × (k < n) × ((i : ℕ) → i < n → d i * r k ≤ d k * r i)
farthest zero d r h p = absurd (omega arith)
farthest (suc zero) d r h p = (0, omega arith, λ i l. let e : i ≡ 0 = omega arith in rw e (omega arith))
farthest (suc (suc n)) d r h p =
    let (k, l, g) = farthest (suc n) d r (omega arith) (λ i o. p i (omega arith)) in
    let z : ℕ = suc n in
    let fl : z < suc (suc n) = omega arith in
    ⊎_elim
    (λ (a : d k * r z < d z * r k). (z, fl, farther n d r k a (p k (omega arith)) g))
    (λ (a : d z * r k ≤ d k * r z). (k, omega arith, as-far n d r k a g))
    (cases_lt (d k * r z) (d z * r k))
  where
    split : (i n : ℕ) → i < suc (suc n) → (i < suc n) ⊎ (i ≡ suc n)
    split i n h = grind arith

    as-far : (n : ℕ) (d r : ℕ → ℕ) (k : ℕ) → d (suc n) * r k ≤ d k * r (suc n) → ((i : ℕ) → i < suc n → d i * r k ≤ d k * r i) → (i : ℕ) → i < suc (suc n) → d i * r k ≤ d k * r i
    as-far n d r k a g i l = ⊎_elim (λ (o : i < suc n). g i o) (λ (e : i ≡ suc n). rw e a) (split i n l)

    chained : (di ri dk rk dz rz : ℕ) → 0 < rk → di * rk ≤ dk * ri → dk * rz ≤ dz * rk → di * rz ≤ dz * ri
    chained di ri dk rk dz rz p a b =
        let c = mul-le-mul_right rz a in
        let e = mul-le-mul_right ri b in
        let f : (di * rz) * rk ≤ (dz * ri) * rk = omega (arith, c, e) in
        le_of_mul-le-mul_right f p

    farther : (n : ℕ) (d r : ℕ → ℕ) (k : ℕ) → d k * r (suc n) < d (suc n) * r k → 0 < r k → ((i : ℕ) → i < suc n → d i * r k ≤ d k * r i) → (i : ℕ) → i < suc (suc n) → d i * r (suc n) ≤ d (suc n) * r i
    farther n d r k a p g i l = ⊎_elim (λ (o : i < suc n). chained (d i) (r i) (d k) (r k) (d (suc n)) (r (suc n)) p (g i o) (omega arith)) (λ (e : i ≡ suc n). rw e (omega arith)) (split i n l)
