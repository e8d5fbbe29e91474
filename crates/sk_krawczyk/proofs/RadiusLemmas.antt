-- Powers of two compare as their exponents.
use Rattle.std.proofs.Common.{◌≡◌, ℕ, ◌<◌, ◌≤◌, ◌^◌, arith, lit≤, ap, sym, ◌∙◌, true, false, ⊎_elim, ℤ, pos}
use Rattle.std.specs.Prelude.{nat_le, unsigned_abs}
use Rattle.std.proofs.lemmas.Bool.{cases_lt, le-leb, leb-true}
use Rattle.std.proofs.Math.Nat.{pow-le-pow_right}
use Rattle.std.proofs.Math.Pow.{pow-lt}

pub reach-is : (z : ℤ) (e : ℕ) → z ≡ pos e → 2 ^ unsigned_abs z ≡ 2 ^ e
reach-is z e h = ap (λ z. 2 ^ unsigned_abs z) h

over : (a b : ℕ) → b < a → nat_le a b ≡ false
over a b h = grind arith

pub pow-leb : (a b : ℕ) → nat_le a b ≡ nat_le (2 ^ a) (2 ^ b)
pow-leb a b =
    ⊎_elim {C = nat_le a b ≡ nat_le (2 ^ a) (2 ^ b)}
    (λ (l : b < a). over a b l ∙ sym (over (2 ^ a) (2 ^ b) (pow-lt l)))
    (λ (l : a ≤ b). le-leb a b l ∙ sym (le-leb (2 ^ a) (2 ^ b) (pow-le-pow_right (lit≤ tt) l)))
    (cases_lt b a)

pub pow-small : (a b : ℕ) → nat_le (2 ^ a) (2 ^ b) ≡ true → a ≤ b
pow-small a b h = leb-true a b (pow-leb a b ∙ h)
