-- Which groups depend on which, and the dirty set of a change.
use Rattle.std.specs.Prelude.{◌≡◌, ◌==◌, ◌&&◌, ◌||◌, ℕ, List, [], ◌∷◌, Bool, true, false, not, Option, Some, None}
use Rattle.std.specs.List.{filter, list_any}
use Rattle.sk_types.specs.declared.handle.EntityId.{EntityId}
use Rattle.sk_types.specs.declared.handle.GroupId.{GroupId}
use Rattle.sk_types.specs.declared.constraint.Constraint.{Constraint}
use Rattle.sk_types.specs.declared.constraint.Need.{Need}
use Rattle.sk_types.specs.declared.entity.Entity.{Entity}
use Rattle.sk_types.specs.declared.group.Group.{Group}
use Rattle.sk_types.specs.declared.request.Request.{Request}
use Rattle.sk_types.specs.Lookups.{entity_at}
use Rattle.sk_types.specs.Needs.{needs_of}
use Rattle.sk_model.specs.Typed.{Typed}

-- ---- which entities a group names

-- in its fields as they are stored, whatever its kind makes of them
abbrev pub group_names : {s : ℕ} → Group s → List EntityId
group_names g = g.origin ∷ g.entity_b ∷ g.entity_c ∷ []

-- ---- dependence

abbrev pub is_of : {s : ℕ} → GroupId → Option (Entity s) → Bool
is_of g None = false
is_of g (Some e) = e.group.0 == g.0

-- an entity that is named is of the group
abbrev pub is_at : {s : ℕ} → List (Entity s) → GroupId → EntityId → Bool
is_at es g n = is_of g (entity_at n.0 es)

-- a needed part is of the group
abbrev pub is_needed : {s : ℕ} → List (Entity s) → GroupId → Need → Bool
is_needed es g n = is_at es g n.entity

-- a group, a request or a constraint of the later group names the earlier one, or an entity of it; a constraint by its workplane
-- and its needed parts, also one that is a reference
abbrev pub group_leans : {s : ℕ} → List (Entity s) → GroupId → GroupId → Group s → Bool
group_leans es later earlier g = g.id.0 == later.0 && (g.source.0 == earlier.0 || list_any (is_at es earlier) (group_names g))

abbrev pub request_leans : {s : ℕ} → List (Entity s) → GroupId → GroupId → Request → Bool
request_leans es later earlier r = r.group.0 == later.0 && is_at es earlier r.workplane

abbrev pub constraint_leans : {s : ℕ} → List (Entity s) → GroupId → GroupId → Constraint s → Bool
constraint_leans es later earlier c = c.group.0 == later.0 && (is_at es earlier c.workplane || list_any (is_needed es earlier) (needs_of c.kind c.points c.entities))

abbrev pub leans : {s : ℕ} → Typed s → List (Entity s) → GroupId → GroupId → Bool
leans m es later earlier =
    list_any (group_leans es later earlier) m.groups
    || (list_any (request_leans es later earlier) m.requests || list_any (constraint_leans es later earlier) m.constraints)

-- group 1 depends on none, and no group on itself
abbrev pub may_depend : GroupId → GroupId → Bool
may_depend later earlier = not (later.0 == earlier.0) && not (later.0 == 1)

unfoldable pub depends : {s : ℕ} → Typed s → List (Entity s) → GroupId → GroupId → Bool
depends m es later earlier = may_depend later earlier && leans m es later earlier

-- ---- the dirty set

abbrev pub is_listed : List GroupId → GroupId → Bool
is_listed gs g = list_any (λ (h : GroupId). g.0 == h.0) gs

-- every group of the model that depends on a member is one
abbrev pub IsClosed : (GroupId → GroupId → Bool) → List GroupId → List GroupId → Type 0
IsClosed depends order gs = (g h : GroupId) → is_listed order g ≡ true → depends g h ≡ true → is_listed gs h ≡ true → is_listed gs g ≡ true

-- the least list, in group order, that has the changed group and every group that depends on a member
pub record IsDirtySet (depends : GroupId → GroupId → Bool) (order : List GroupId) (changed : GroupId) (gs : List GroupId) : Type 0 where
  pub in_order : gs ≡ filter (is_listed gs) order
  pub has : is_listed gs changed ≡ true
  pub closed : IsClosed depends order gs
  pub least : (hs : List GroupId) → is_listed hs changed ≡ true → IsClosed depends order hs → (g : GroupId) → is_listed gs g ≡ true → is_listed hs g ≡ true
