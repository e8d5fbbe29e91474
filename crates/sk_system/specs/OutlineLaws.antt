-- What a group's system reads of an outline and of the constraints.
use Rattle.std.specs.Prelude.{◌≡◌, ◌==◌, ⊤, ℕ, true, List}
use Rattle.std.specs.List.{All, filter}
use Rattle.sk_types.specs.declared.handle.EntityId.{EntityId}
use Rattle.sk_types.specs.declared.constraint.Constraint.{Constraint}
use Rattle.sk_types.specs.declared.constraint.Need.{Need}
use Rattle.sk_types.specs.declared.entity.Entity.{Entity}
use Rattle.sk_types.specs.declared.entity.Numbers.{Numbers}
use Rattle.sk_types.specs.declared.group.Group.{Group}
use Rattle.sk_types.specs.declared.group.GroupKind.{GroupKind}
use Rattle.sk_types.specs.declared.group.GroupKind.TheVariants.{Space, Plane, Extrude, Translate, Linked}
use Rattle.sk_types.specs.Handles.{item_of_group}
use Rattle.sk_types.specs.Lookups.{entity_at}
use Rattle.sk_types.specs.Needs.{needs_of}
use Rattle.sk_types.specs.Params.{unknown_params}
use Rattle.sk_system.specs.GroupSystem.{own_constraints, group_system}
use Rattle.sk_system.specs.LookupLaws.{Reads, IsRead, FourRead, NamesRead, AreAlike}

-- what a constraint needs, and its workplane
pub record NeededRead {s : ℕ} (r : Reads) (c : Constraint s) : Type 0 where
  pub needs : All (λ (n : Need). IsRead r n.entity) (needs_of c.kind c.points c.entities)
  pub workplane : IsRead r c.workplane

-- the workplane of what is extruded or translated
abbrev pub PlaneRead : Reads → GroupKind → EntityId → Type 0
PlaneRead r Space w = ⊤
PlaneRead r Plane w = ⊤
PlaneRead r Extrude w = IsRead r w
PlaneRead r Translate w = IsRead r w
PlaneRead r Linked w = ⊤

-- What the group, its entities and its constraints need, and all that these name in turn; handle 0, which names nothing, is among
-- them. What a constraint names and doesn't need isn't.
pub record HoldsNeeds {s : ℕ} (r : Reads) (g : Group s) (es : List (Entity s)) (cs : List (Constraint s)) : Type 0 where
  pub nothing : r.entities 0 ≡ true
  pub vector : FourRead r (item_of_group g.id.0 0)
  pub quaternion : FourRead r (item_of_group g.id.0 3)
  pub workplane : PlaneRead r g.kind g.entity_b
  pub own : All (λ (e : Entity s). IsRead r e.id) (filter (λ e. e.group.0 == g.id.0) es)
  pub constraints : All (NeededRead {s = s} r) (own_constraints g cs)
  pub names : All (λ (e : Entity s). IsRead r e.id → NamesRead r e) es

-- Two outlines, with constraints: the group has the same entities and constraints, and each entity that is read is the same.
pub record SameReads {s : ℕ} (r : Reads) (g : Group s) (es : List (Entity s)) (cs : List (Constraint s)) (fs : List (Entity s)) (ds : List (Constraint s)) : Type 0 where
  pub own : filter (λ e. e.group.0 == g.id.0) es ≡ filter (λ e. e.group.0 == g.id.0) fs
  pub constraints : own_constraints g cs ≡ own_constraints g ds
  pub there : (h : ℕ) → r.entities h ≡ true → entity_at h es ≡ entity_at h fs

-- the same unknowns, and from numbers that are alike where they are read the same system
abbrev pub OutlinesLaw : Type 0
OutlinesLaw =
    (s : ℕ) (r : Reads) (g : Group s) (es : List (Entity s)) (cs : List (Constraint s)) (fs : List (Entity s)) (ds : List (Constraint s)) (n m : Numbers s) →
    HoldsNeeds r g es cs → SameReads r g es cs fs ds → AreAlike r (unknown_params cs es g) n m → group_system g es cs n ≡ group_system g fs ds m
