-- Short lists: whether a number stands in one, what a function makes of the numbers below n, and what is there only if a test holds.
use Rattle.std.specs.Prelude.{◌==◌, ◌||◌, ℕ, zero, suc, Bool, false, List, [], ◌∷◌, ◌++◌, if◌then◌else◌}

abbrev pub is_among : ℕ → List ℕ → Bool
is_among n [] = false
is_among n (m ∷ ms) = n == m || is_among n ms

-- f 0 .. f (n - 1)
abbrev pub each_below : {A : Type 0} → ℕ → (ℕ → A) → List A
each_below zero f = []
each_below (suc n) f = each_below n f ++ f n ∷ []

abbrev pub only_if : {A : Type 0} → Bool → List A → List A
only_if t xs = if t then xs else []
