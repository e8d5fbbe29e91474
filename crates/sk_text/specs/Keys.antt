-- The parts of a value line.
use Rattle.std.specs.Prelude.{ℕ, List, [], ◌∷◌, Option, Some, None, if◌then◌else◌, nat_eq}
use Rattle.std.specs.Borrow.{Bor}
use Rattle.std.specs.Option.{option_map}

-- the parts before and after the first `=` (byte 61)
abbrev pub parts_at_equals : List ℕ → Option (List ℕ × List ℕ)
parts_at_equals [] = None
parts_at_equals (b ∷ bs) = if nat_eq b 61 then Some ([], bs) else option_map (λ (p : List ℕ × List ℕ). (b ∷ p.0, p.1)) (parts_at_equals bs)

-- what two lent parts point to
abbrev pub lent_parts : Option (Bor (List ℕ) × Bor (List ℕ)) → Option (List ℕ × List ℕ)
lent_parts o = option_map (λ (p : Bor (List ℕ) × Bor (List ℕ)). (p.0.now, p.1.now)) o
