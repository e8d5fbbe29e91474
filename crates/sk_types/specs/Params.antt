-- Which parameters entities and groups have as their own, and which of them are to be solved.
use Rattle.std.specs.Prelude.{◌==◌, ◌<◌, ◌+◌, ◌^◌, ◌&&◌, ℕ, List, [], ◌++◌, Bool, not, if◌then◌else◌}
use Rattle.std.specs.List.{All, filter, flat_map, list_any}
use Rattle.sk_types.specs.declared.handle.ParamId.{ParamId}
use Rattle.sk_types.specs.declared.entity.Entity.{Entity}
use Rattle.sk_types.specs.declared.entity.Numbering.{Numbering}
use Rattle.sk_types.specs.declared.entity.Numbering.TheVariants.{Own, Moved, Copied, Placed, Nothing}
use Rattle.sk_types.specs.declared.constraint.Constraint.{Constraint}
use Rattle.sk_types.specs.declared.group.Group.{Group}
use Rattle.sk_types.specs.declared.group.GroupKind.{GroupKind}
use Rattle.sk_types.specs.declared.group.GroupKind.TheVariants.{Space, Plane, Extrude, Translate, Linked}
use Rattle.sk_types.specs.declared.entity_kind.TheConstants as entity_kind
use Rattle.sk_types.specs.declared.constraint_kind.TheConstants as constraint_kind
use Rattle.sk_types.specs.Handles.{item_of_group}
use Rattle.sk_types.specs.Lists.{each_below}
use Rattle.sk_types.specs.Needs.{named}

-- ---- of entities

-- a point in space has three numbers, one in a workplane two, a normal in space four, a distance one
abbrev pub own_count : ℕ → ℕ
own_count k =
    if k == entity_kind.POINT_IN_SPACE then 3 else
    if k == entity_kind.POINT_IN_WORKPLANE then 2 else
    if k == entity_kind.NORMAL_IN_SPACE then 4 else
    if k == entity_kind.DISTANCE then 1 else 0

-- so many from the first on
abbrev pub own_from : {s : ℕ} → ℕ → Numbering s → List ParamId
own_from n (Own p) = each_below n (λ i. record { 0 = p.0 + i })
own_from n (Moved e t) = []
own_from n (Copied e) = []
own_from n (Placed q) = []
own_from n Nothing = []

-- the parameters that an entity has by its own numbers
abbrev pub own_params : {s : ℕ} → Entity s → List ParamId
own_params e = own_from (own_count e.kind) e.numbers

-- they are all handles
abbrev pub OwnFit : {s : ℕ} → List (Entity s) → Type 0
OwnFit es = All (λ e. All (λ (p : ParamId). p.0 < 2 ^ 32) (own_params e)) es

-- ---- of groups

-- the vector of an extrusion or a translation, and of a linked part a quaternion too
abbrev pub group_count : GroupKind → ℕ
group_count Space = 0
group_count Plane = 0
group_count Extrude = 3
group_count Translate = 3
group_count Linked = 7

-- items 0 to 2 are the vector, 3 to 6 the quaternion
abbrev pub group_params : {s : ℕ} → Group s → List ParamId
group_params g = each_below (group_count g.kind) (λ i. record { 0 = item_of_group g.id.0 i })

-- ---- unknowns

-- a point stays where it was dragged to, in its own group
abbrev pub fixes : {s : ℕ} → Entity s → Constraint s → Bool
fixes e c = c.kind == constraint_kind.WHERE_DRAGGED && not c.reference && c.group.0 == e.group.0 && (named c.points 0).0 == e.id.0

abbrev pub is_fixed : {s : ℕ} → List (Constraint s) → Entity s → Bool
is_fixed cs e = list_any (fixes e) cs

abbrev pub free_params : {s : ℕ} → List (Constraint s) → Entity s → List ParamId
free_params cs e = if is_fixed cs e then [] else own_params e

-- the parameters of a group that no constraint fixes: those of its entities, then its own
abbrev pub unknown_params : {s : ℕ} → List (Constraint s) → List (Entity s) → Group s → List ParamId
unknown_params cs es g = flat_map (free_params cs) (filter (λ e. e.group.0 == g.id.0) es) ++ group_params g
