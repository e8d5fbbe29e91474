-- The ends of a product are in order.
use Rattle.std.proofs.Common.{ℕ, ◌^◌, ℤ, pos, negsuc, ◌≤ℤ◌, ◌<ℤ◌, ◌*ℤ◌, arith}
use Rattle.std.proofs.lemmas.Int.{ints, clamps}
use Rattle.std.proofs.lemmas.Nat.{pow_pos}
use Rattle.std.specs.Int.{int_min, int_max}
use Rattle.sk_num.specs.Whole.{*ℤ-le_pos, *ℤ-le_neg}
use Rattle.sk_num.specs.Division.{floor_by-le-ceil_by}
use Rattle.sk_num.specs.Rounding.{floor_at, ceil_at}
use Rattle.sk_num.specs.Ends.{Ends, least_product, greatest_product}

pub least-le-greatest : (a b : Ends) → least_product a b ≤ℤ greatest_product a b
least-le-greatest a b = small (a.lo *ℤ b.lo) (a.lo *ℤ b.hi) (a.hi *ℤ b.lo) (a.hi *ℤ b.hi)
  where
    small : (p q r s : ℤ) → int_min (int_min p q) (int_min r s) ≤ℤ int_max (int_max p q) (int_max r s)
    small p q r s = omega (arith, ints, clamps)

pub floor_at-le-ceil_at : (s : ℕ) (a b : ℤ) → a ≤ℤ b → floor_at s a ≤ℤ ceil_at s b
floor_at-le-ceil_at s a b h = floor_by-le-ceil_by a b (2 ^ s) (pow_pos s) h

-- what a number makes of two ends: below 0 it turns them
pub ends-rising : (a b k : ℤ) → a ≤ℤ b → pos 0 ≤ℤ k → (a *ℤ k) ≤ℤ (b *ℤ k)
ends-rising a b (pos n) l h = *ℤ-le_pos n a b l
ends-rising a b (negsuc n) l h = absurd (omega (arith, ints, h))

pub ends-falling : (a b k : ℤ) → a ≤ℤ b → k <ℤ pos 0 → (b *ℤ k) ≤ℤ (a *ℤ k)
ends-falling a b (pos n) l h = absurd (omega (arith, ints, h))
ends-falling a b (negsuc n) l h = *ℤ-le_neg n a b l
