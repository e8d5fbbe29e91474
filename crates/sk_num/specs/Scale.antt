-- The scale s of a grid: its unit is 2^-s millimetre, or 2^-s of a plain number.
use Rattle.std.specs.Prelude.{◌≡◌, ℕ, zero, suc, ◌≤◌, ◌+◌, ◌-◌, ◌^◌, refl}
use Rattle.std.proofs.Common.{arith, ◌⊎◌, inl, inr}

-- the scales of this project: the plain grid and the finer one
pub record IsScale (s : ℕ) : Type 0 where
  is_known : (s ≡ 36) ⊎ (s ≡ 44)

pub IsScale-36 : IsScale 36
IsScale-36 = record { is_known = inl refl }

pub IsScale-44 : IsScale 44
IsScale-44 = record { is_known = inr refl }

-- all that a proof above uses of a scale
pub IsScale-bounds : {s : ℕ} → IsScale s → (36 ≤ s) × (s ≤ 44)
IsScale-bounds {s} h = elim h.is_known [ inl e ↦ omega (arith, e) | inr e ↦ omega (arith, e) ]

-- half of one
pub IsScale-half : {s : ℕ} → IsScale s → 2 ^ (s - 1) + 2 ^ (s - 1) ≡ 2 ^ s
IsScale-half {s = zero} h = absurd (omega (arith, IsScale-bounds h))
IsScale-half {s = suc n} h = grind arith

-- for calls at a literal scale
pub ruleset scale_facts = (IsScale-36, IsScale-44)
