-- How many auxiliaries and rows constraints, entities and groups have.
use Rattle.std.specs.Prelude.{◌==◌, ◌&&◌, ℕ, ◌+◌, Bool, true, false, not, List, [], ◌∷◌, count_by, length, Option, Some, None, if◌then◌else◌}
use Rattle.std.specs.List.{filter, sum_by}
use Rattle.sk_types.specs.declared.handle.EntityId.{EntityId}
use Rattle.sk_types.specs.declared.handle.Maker.{Maker}
use Rattle.sk_types.specs.declared.handle.Maker.TheVariants.{OfRequest, OfGroup}
use Rattle.sk_types.specs.declared.entity.Entity.{Entity}
use Rattle.sk_types.specs.declared.constraint.Constraint.{Constraint}
use Rattle.sk_types.specs.declared.constraint.Need.{Need}
use Rattle.sk_types.specs.declared.group.Group.{Group}
use Rattle.sk_types.specs.declared.group.GroupKind.{GroupKind}
use Rattle.sk_types.specs.declared.group.GroupKind.TheVariants.{Space, Plane, Extrude, Translate, Linked}
use Rattle.sk_types.specs.declared.entity_kind.TheConstants as entity_kind
use Rattle.sk_types.specs.declared.constraint_kind.TheConstants as kind
use Rattle.sk_types.specs.Handles.{maker_of}
use Rattle.sk_types.specs.Lists.{is_among}
use Rattle.sk_types.specs.Lookups.{entity_at}
use Rattle.sk_types.specs.Needs.{named, circles_of}
use Rattle.sk_types.specs.Params.{unknown_params}

-- ---- of constraints

-- lengths, feet on lines and cosines; an arc's radius is a length too
abbrev pub auxiliaries : ℕ → Bool → ℕ → ℕ
auxiliaries k in_plane arcs =
    if is_among k (kind.POINT_LINE_DISTANCE ∷ kind.POINT_FACE_DISTANCE ∷ kind.PROJECTED_DISTANCE ∷ []) then 1 else
    if k == kind.POINT_ON_LINE then (if in_plane then 0 else 1) else
    if k == kind.EQUAL_LENGTH_AND_DISTANCE then (if in_plane then 2 else 1) else
    if k == kind.EQUAL_DISTANCES then (if in_plane then 4 else 2) else
    if k == kind.EQUAL_ANGLES then 6 else
    if is_among k (kind.LENGTH_DIFFERENCE ∷ kind.ANGLE ∷ []) then 2 else
    if is_among k (kind.DIAMETER ∷ kind.POINT_ON_CIRCLE ∷ kind.EQUAL_RADII ∷ []) then arcs else 0

-- the rows that are no auxiliary's own
abbrev pub relations : ℕ → Bool → Bool → ℕ
relations k in_plane has_point =
    if is_among k (kind.POINTS_COINCIDENT ∷ kind.SYMMETRIC ∷ []) then (if in_plane then 2 else 3) else
    if is_among k (kind.POINT_ON_LINE ∷ kind.PARALLEL ∷ kind.CUBIC_LINE_TANGENT ∷ []) then (if in_plane then 1 else 2) else
    if is_among k (kind.SYMMETRIC_HORIZONTAL ∷ kind.SYMMETRIC_VERTICAL ∷ kind.SYMMETRIC_LINE ∷ []) then 2 else
    if k == kind.AT_MIDPOINT then (if has_point then (if in_plane then 2 else 3) else 1) else
    if k == kind.SAME_ORIENTATION then 3 else
    if is_among k (kind.WHERE_DRAGGED ∷ kind.COMMENT ∷ []) then 0 else 1

abbrev pub has_entity : EntityId → Bool
has_entity e = not (e.0 == 0)

-- auxiliaries and all rows; a reference holds nothing
abbrev pub sizes_of : ℕ → Bool → Bool → Bool → ℕ → ℕ × ℕ
sizes_of k in_plane has_point reference arcs =
    if reference then (0, 0) else (auxiliaries k in_plane arcs, auxiliaries k in_plane arcs + relations k in_plane has_point)

abbrev pub is_arc : {s : ℕ} → Option (Entity s) → Bool
is_arc None = false
is_arc (Some e) = e.kind == entity_kind.ARC

-- how many of a constraint's circles or arcs are arcs
abbrev pub arcs_of : {s : ℕ} → List (Entity s) → Constraint s → ℕ
arcs_of es c = count_by (λ (n : Need). is_arc (entity_at n.entity.0 es)) (circles_of c.kind c.points c.entities)

abbrev pub sizes_in : {s : ℕ} → List (Entity s) → Constraint s → ℕ × ℕ
sizes_in es c = sizes_of c.kind (has_entity c.workplane) (has_entity (named c.points 0)) c.reference (arcs_of es c)

-- ---- of entities

abbrev pub is_by_request : Maker → Bool
is_by_request (OfRequest r i) = true
is_by_request (OfGroup g i) = false

-- a normal in space has length 1; an arc that a request makes has two equal radii
abbrev pub entity_rows : {s : ℕ} → Entity s → ℕ
entity_rows e =
    if e.kind == entity_kind.NORMAL_IN_SPACE then 1 else
    if e.kind == entity_kind.ARC && is_by_request (maker_of e.id.0) then 1 else 0

-- ---- of groups

-- an extrusion goes along its workplane's normal (two rows), a translation stays in its workplane (one); a linked part's quaternion has length 1
abbrev pub rows_by : GroupKind → EntityId → ℕ
rows_by Space plane = 0
rows_by Plane plane = 0
rows_by Extrude plane = if has_entity plane then 2 else 0
rows_by Translate plane = if has_entity plane then 1 else 0
rows_by Linked plane = 1

abbrev pub group_rows : {s : ℕ} → Group s → ℕ
group_rows g = rows_by g.kind g.entity_b

-- ---- a group's sums

-- what is to be solved: parameters and auxiliaries
abbrev pub unknowns_of : {s : ℕ} → List (Constraint s) → List (Entity s) → Group s → ℕ
unknowns_of cs es g = length (unknown_params cs es g) + sum_by (λ c. (sizes_in es c).0) (filter (λ c. c.group.0 == g.id.0) cs)

-- the rows of entities, of the group, and of constraints
abbrev pub rows_of : {s : ℕ} → List (Constraint s) → List (Entity s) → Group s → ℕ
rows_of cs es g =
    sum_by entity_rows (filter (λ e. e.group.0 == g.id.0) es) + group_rows g + sum_by (λ c. (sizes_in es c).1) (filter (λ c. c.group.0 == g.id.0) cs)
