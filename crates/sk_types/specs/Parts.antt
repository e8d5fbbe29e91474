-- Whether the parts that a constraint needs are there.
use Rattle.std.specs.Prelude.{◌≡◌, ℕ, Bool, true, false, List, Option, Some, None}
use Rattle.std.specs.List.{All}
use Rattle.sk_types.specs.declared.constraint.Constraint.{Constraint}
use Rattle.sk_types.specs.declared.constraint.Need.{Need}
use Rattle.sk_types.specs.declared.constraint.PartKind.{PartKind}
use Rattle.sk_types.specs.declared.entity.Entity.{Entity}
use Rattle.sk_types.specs.Lookups.{entity_at}
use Rattle.sk_types.specs.Needs.{needs_of, part_takes}

-- an entity that is there and can stand in the part's place
abbrev pub stands_for : {s : ℕ} → Option (Entity s) → PartKind → Bool
stands_for None part = false
stands_for (Some e) part = part_takes part e.kind

-- each needed part is there
abbrev pub HasParts : {s : ℕ} → List (Entity s) → Constraint s → Type 0
HasParts es c = All (λ (n : Need). stands_for (entity_at n.entity.0 es) n.part ≡ true) (needs_of c.kind c.points c.entities)
