-- The points that draw a cubic: Bernstein's form at sixteenths, over whole numbers of units.
use Rattle.std.specs.Prelude.{ℕ, ◌-◌, ◌*◌, ◌^◌, ℤ, pos, ◌+ℤ◌, ◌*ℤ◌, List, [], ◌∷◌}
use Rattle.sk_num.specs.Division.{nearest}

-- 4096 times what lies at t = i / 16 between a and d, drawn to b and c
abbrev pub mixed : ℕ → ℤ → ℤ → ℤ → ℤ → ℤ
mixed i a b c d =
    (a *ℤ pos ((16 - i) ^ 3) +ℤ b *ℤ pos (3 * (16 - i) ^ 2 * i)) +ℤ (c *ℤ pos (3 * (16 - i) * i ^ 2) +ℤ d *ℤ pos (i ^ 3))

-- rounded to the nearest unit, halves away from zero
unfoldable pub curve_number : ℕ → ℤ → ℤ → ℤ → ℤ → ℤ
curve_number i a b c d = nearest (mixed i a b c d) (pos 4096)

-- component by component
abbrev pub curve_components : ℕ → List ℤ → List ℤ → List ℤ → List ℤ → List ℤ
curve_components i (a ∷ p) (b ∷ q) (c ∷ r) (d ∷ s) = curve_number i a b c d ∷ curve_components i p q r s
curve_components i p q r s = []

-- the point at t = i / 16 of a cubic with four control points
abbrev pub curve_point : List (List ℤ) → ℕ → List ℤ
curve_point (p ∷ q ∷ r ∷ s ∷ []) i = curve_components i p q r s
curve_point ps i = []
