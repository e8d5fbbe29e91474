-- How many unknowns and rows the groups have, counted thing by thing.
use Rattle.std.specs.Prelude.{ℕ, ◌+◌, min, length, map, nat_eq, List, [], ◌∷◌, if◌then◌else◌}
use Rattle.sk_types.specs.declared.handle.GroupId.{GroupId}
use Rattle.sk_types.specs.declared.constraint.Constraint.{Constraint}
use Rattle.sk_types.specs.declared.entity.Entity.{Entity}
use Rattle.sk_types.specs.declared.group.Group.{Group}
use Rattle.sk_types.specs.Params.{free_params, group_params}
use Rattle.sk_types.specs.Sizes.{entity_rows, group_rows, sizes_in}
use Rattle.sk_chain.specs.declared.sizes.Count.{Count}

-- a count stops at 65535, far above what is refused
abbrev pub stopped : ℕ → ℕ
stopped n = min n 65535

abbrev pub nothing : Count
nothing = record { unknowns = 0; rows = 0 }

-- so much more of both
abbrev pub more : Count → Count → Count
more c k = record { unknowns = stopped (c.unknowns + k.unknowns); rows = stopped (c.rows + k.rows) }

-- so much more at the group with this handle
abbrev pub added : List GroupId → ℕ → Count → List Count → List Count
added [] n k counts = counts
added (g ∷ gs) n k [] = []
added (g ∷ gs) n k (c ∷ counts) = (if nat_eq n g.0 then more c k else c) ∷ added gs n k counts

-- what each of these things has, at its group
abbrev pub all_added : {X : Type 0} → List GroupId → (X → GroupId) → (X → Count) → List X → List Count → List Count
all_added order group count [] counts = counts
all_added order group count (x ∷ xs) counts = all_added order group count xs (added order (group x).0 (count x) counts)

abbrev pub of_group : {s : ℕ} → Group s → Count
of_group g = record { unknowns = length (group_params g); rows = group_rows g }

abbrev pub of_entity : {s : ℕ} → List (Constraint s) → Entity s → Count
of_entity cs e = record { unknowns = length (free_params cs e); rows = entity_rows e }

abbrev pub of_constraint : {s : ℕ} → List (Entity s) → Constraint s → Count
of_constraint es c = record { unknowns = (sizes_in es c).0; rows = (sizes_in es c).1 }

abbrev pub zeros : List GroupId → List Count
zeros order = map (λ g. nothing) order

abbrev pub with_groups : {s : ℕ} → List GroupId → List (Group s) → List Count → List Count
with_groups order gs counts = all_added order (λ g. g.id) of_group gs counts

abbrev pub with_entities : {s : ℕ} → List GroupId → List (Constraint s) → List (Entity s) → List Count → List Count
with_entities order cs es counts = all_added order (λ e. e.group) (of_entity cs) es counts

abbrev pub with_constraints : {s : ℕ} → List GroupId → List (Entity s) → List (Constraint s) → List Count → List Count
with_constraints order es cs counts = all_added order (λ c. c.group) (of_constraint es) cs counts

-- the counts of the groups in their order
abbrev pub counted : {s : ℕ} → List GroupId → List (Group s) → List (Entity s) → List (Constraint s) → List Count
counted order gs es cs = with_constraints order es cs (with_entities order cs es (with_groups order gs (zeros order)))
