-- What a group's system reads of the numbers so far.
use Rattle.std.specs.Prelude.{◌≡◌, ◌==◌, ◌+◌, ℕ, Bool, true, List, None}
use Rattle.std.specs.List.{All, filter}
use Rattle.sk_types.specs.declared.handle.EntityId.{EntityId}
use Rattle.sk_types.specs.declared.handle.ParamId.{ParamId}
use Rattle.sk_types.specs.declared.constraint.Constraint.{Constraint}
use Rattle.sk_types.specs.declared.entity.Entity.{Entity}
use Rattle.sk_types.specs.declared.entity.Numbering.{Numbering}
use Rattle.sk_types.specs.declared.entity.Numbering.TheVariants.{Own, Moved, Copied, Placed, Nothing}
use Rattle.sk_types.specs.declared.entity.Numbers.{Numbers}
use Rattle.sk_types.specs.declared.group.Group.{Group}
use Rattle.sk_types.specs.Handles.{item_of_group}
use Rattle.sk_types.specs.Lookups.{act_at, value_of, place_of}
use Rattle.sk_types.specs.Params.{unknown_params}
use Rattle.sk_system.specs.GroupSystem.{own_constraints, group_system}

-- the entities and the parameters that are read, by their handles
pub record Reads : Type 0 where
  pub entities : ℕ → Bool
  pub params : ℕ → Bool

abbrev pub IsRead : Reads → EntityId → Type 0
IsRead r e = r.entities e.0 ≡ true

-- the parameter h and the three behind it
abbrev pub FourRead : Reads → ℕ → Type 0
FourRead r h = (r.params h ≡ true) × (r.params (h + 1) ≡ true) × (r.params (h + 2) ≡ true) × (r.params (h + 3) ≡ true)

-- what an entity's numbers come from
abbrev pub NumbersRead : {s : ℕ} → Reads → Numbering s → Type 0
NumbersRead r (Own p) = FourRead r p.0
NumbersRead r (Moved from k) = IsRead r from
NumbersRead r (Copied from) = IsRead r from
NumbersRead r (Placed zs) = Unit {0}
NumbersRead r Nothing = Unit {0}

-- all that an entity names
pub record NamesRead {s : ℕ} (r : Reads) (e : Entity s) : Type 0 where
  pub points : All (IsRead r) e.points
  pub normal : IsRead r e.normal
  pub distance : IsRead r e.distance
  pub workplane : IsRead r e.workplane
  pub numbers : NumbersRead r e.numbers

-- all that a constraint names
pub record PartsRead {s : ℕ} (r : Reads) (c : Constraint s) : Type 0 where
  pub points : All (IsRead r) c.points
  pub entities : All (IsRead r) c.entities
  pub workplane : IsRead r c.workplane

-- what the group, its entities and its constraints name, and all that these name in turn; handle 0, which names nothing, is among
-- them
pub record HoldsReads {s : ℕ} (r : Reads) (g : Group s) (es : List (Entity s)) (cs : List (Constraint s)) : Type 0 where
  pub nothing : r.entities 0 ≡ true
  pub vector : FourRead r (item_of_group g.id.0 0)
  pub quaternion : FourRead r (item_of_group g.id.0 3)
  pub workplane : IsRead r g.entity_b
  pub own : All (λ (e : Entity s). IsRead r e.id) (filter (λ e. e.group.0 == g.id.0) es)
  pub constraints : All (PartsRead {s = s} r) (own_constraints g cs)
  pub names : All (λ (e : Entity s). IsRead r e.id → NamesRead r e) es

-- the same at each entity, and at each parameter that isn't unknown
pub record AreAlike {s : ℕ} (r : Reads) (us : List ParamId) (n m : Numbers s) : Type 0 where
  pub values : (h : ℕ) → r.params h ≡ true → place_of h us ≡ None → value_of h n.params ≡ value_of h m.params
  pub acts : (h : ℕ) → r.entities h ≡ true → act_at h n.acts ≡ act_at h m.acts

-- numbers that are alike where they are read give the same system
abbrev pub LookupsLaw : Type 0
LookupsLaw =
    (s : ℕ) (r : Reads) (g : Group s) (es : List (Entity s)) (cs : List (Constraint s)) (n m : Numbers s) →
    HoldsReads r g es cs → AreAlike r (unknown_params cs es g) n m → group_system g es cs n ≡ group_system g es cs m

-- so numbers that are the same at every handle do
abbrev pub SameLookupsLaw : Type 0
SameLookupsLaw =
    (s : ℕ) (g : Group s) (es : List (Entity s)) (cs : List (Constraint s)) (n m : Numbers s) →
    ((h : ℕ) → value_of h n.params ≡ value_of h m.params) → ((h : ℕ) → act_at h n.acts ≡ act_at h m.acts) → group_system g es cs n ≡ group_system g es cs m
