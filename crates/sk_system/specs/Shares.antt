-- What belongs to each group of an outline and a list of constraints.
use Rattle.std.specs.Prelude.{◌≡◌, ◌==◌, ℕ, List, [], get_or}
use Rattle.std.specs.List.{filter}
use Rattle.sk_types.specs.declared.constraint.Constraint.{Constraint}
use Rattle.sk_types.specs.declared.entity.Entity.{Entity}

-- the things of a group, in order
abbrev pub of_group : {X : Type 0} → (X → ℕ) → ℕ → List X → List X
of_group key g xs = filter (λ x. key x == g) xs

-- the list of a group, where each group's stands at its number; empty where there is none
abbrev pub list_at : {X : Type 0} → List (List X) → ℕ → List X
list_at lists g = get_or lists g []

-- each group's list has the things of that group
abbrev pub AreParted : {X : Type 0} → (X → ℕ) → List X → List (List X) → Type 0
AreParted key xs lists = (g : ℕ) → list_at lists g ≡ of_group key g xs

abbrev pub entity_group : {s : ℕ} → Entity s → ℕ
entity_group e = e.group.0

abbrev pub constraint_group : {s : ℕ} → Constraint s → ℕ
constraint_group c = c.group.0
