-- Points that are fixed, as pairs of a group and a point.
use Rattle.std.specs.Prelude.{◌≡◌, ℕ, ◌&&◌, nat_eq, Bool, List}
use Rattle.std.specs.List.{list_any}
use Rattle.sk_types.specs.declared.handle.EntityId.{EntityId}
use Rattle.sk_types.specs.declared.handle.GroupId.{GroupId}
use Rattle.sk_types.specs.declared.entity.Entity.{Entity}
use Rattle.sk_types.specs.declared.constraint.Constraint.{Constraint}
use Rattle.sk_types.specs.Params.{is_fixed}

-- whether an entity stands among the pairs
abbrev pub is_pair : {s : ℕ} → Entity s → List (GroupId × EntityId) → Bool
is_pair e pairs = list_any (λ p. nat_eq e.group.0 p.0.0 && nat_eq e.id.0 p.1.0) pairs

-- it does exactly where these constraints fix it
abbrev pub HasFixed : {s : ℕ} → List (GroupId × EntityId) → List (Constraint s) → Type 0
HasFixed {s} pairs cs = (e : Entity s) → is_pair e pairs ≡ is_fixed cs e
