use Rattle.std.proofs.Common.{ℕ, ◌≤◌, ◌<◌, ◌+◌, ◌-◌, ◌*◌, ◌/◌, ◌^◌, arith, ⊎_elim}
use Rattle.std.proofs.lemmas.Bool.{cases_lt}
use Rattle.std.proofs.Math.Nat.{mul-le-mul_right}
use Rattle.sk_krawczyk.proofs.sizes.whole_up.Goals as goal

quotient-small : (u p : ℕ) → 2 ^ 36 ≤ p → u ≤ 65535 * 2 ^ 62 → (u + p - 1) / p ≤ 2 ^ 42
quotient-small u p h k =
    let q : ℕ = (u + p - 1) / p in
    ⊎_elim {C = q ≤ 2 ^ 42}
    (λ (l : 2 ^ 42 < q). let m = mul-le-mul_right p l in absurd (omega (arith, m)))
    (λ (l : q ≤ 2 ^ 42). l)
    (cases_lt (2 ^ 42) q)

pub returns-clause-small : goal.returns-clause-small
returns-clause-small g c =
    let q = quotient-small c.args.units c.one-one.result c.one-one.ensures.large c.requires.small in
    omega (arith, q)
