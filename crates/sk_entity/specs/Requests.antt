-- What a request makes: its entities and its parameters, by SolveSpace's numbering of items.
use Rattle.std.specs.Prelude.{◌==◌, ℕ, ◌+◌, ◌*◌, ◌^◌, ℤ, pos, Bool, true, false, not, List, [], ◌∷◌, ◌++◌, Option, Some, None, if◌then◌else◌}
use Rattle.std.specs.List.{flat_map}
use Rattle.sk_types.specs.declared.handle.EntityId.{EntityId}
use Rattle.sk_types.specs.declared.handle.ParamId.{ParamId}
use Rattle.sk_types.specs.declared.request.Request.{Request}
use Rattle.sk_types.specs.declared.entity.Entity.{Entity}
use Rattle.sk_types.specs.declared.entity.Numbering.{Numbering}
use Rattle.sk_types.specs.declared.entity.Numbering.TheVariants.{Own, Nothing}
use Rattle.sk_types.specs.declared.entity_kind.TheConstants as entity_kind
use Rattle.sk_types.specs.declared.request_kind.TheConstants as request_kind
use Rattle.sk_types.specs.Handles.{item_of_request, none}
use Rattle.sk_types.specs.Lists.{each_below, only_if}
use Rattle.sk_types.specs.Params.{own_params}
use Rattle.sk_entity.specs.declared.shape.Shape.{Shape}

abbrev pub shape : ℕ → ℕ → Bool → Bool → Shape
shape entity points has_normal has_distance = record { entity = entity; points = points; has_normal = has_normal; has_distance = has_distance }

-- what entity 0 is and which parts it has; a cubic has four points and the extra ones; none for a datum point, which is its
-- own entity 0, and for a number that isn't known
abbrev pub shape_of : Request → Option Shape
shape_of r =
    if r.kind == request_kind.WORKPLANE then Some (shape entity_kind.WORKPLANE 1 true false) else
    if r.kind == request_kind.LINE then Some (shape entity_kind.LINE 2 false false) else
    if r.kind == request_kind.CUBIC then Some (shape entity_kind.CUBIC (4 + r.extra) false false) else
    if r.kind == request_kind.CIRCLE then Some (shape entity_kind.CIRCLE 1 true true) else
    if r.kind == request_kind.ARC then Some (shape entity_kind.ARC 3 true false) else None

abbrev pub entity_item : Request → ℕ → EntityId
entity_item r i = record { 0 = item_of_request r.id.0 i }

abbrev pub param_item : Request → ℕ → ParamId
param_item r i = record { 0 = item_of_request r.id.0 i }

abbrev pub in_plane : Request → Bool
in_plane r = not (r.workplane.0 == 0)

-- an entity that names no other; entity 0 alone has the request's construction flag
abbrev pub bare : (s : ℕ) → Request → ℕ → ℕ → Bool → Numbering s → Entity s
bare s r i kind construction numbers = record {
  id = entity_item r i;
  kind = kind;
  group = r.group;
  construction = construction;
  points = [];
  normal = none;
  distance = none;
  workplane = r.workplane;
  numbers = numbers;
}

abbrev pub point_kind : Request → ℕ
point_kind r = if in_plane r then entity_kind.POINT_IN_WORKPLANE else entity_kind.POINT_IN_SPACE

-- point i is entity i + 1, and its parameters begin at 16 + 3 i
abbrev pub point_of : (s : ℕ) → Request → ℕ → Entity s
point_of s r i = bare s r (i + 1) (point_kind r) false (Own (param_item r (16 + 3 * i)))

-- a normal is entity 32; in a workplane it is the workplane's and has no numbers of its own
abbrev pub normal_of : (s : ℕ) → Request → Entity s
normal_of s r =
    if in_plane r then bare s r 32 entity_kind.NORMAL_IN_WORKPLANE false Nothing
    else bare s r 32 entity_kind.NORMAL_IN_SPACE false (Own (param_item r 32))

-- a distance is entity 64 with parameter 64
abbrev pub distance_of : (s : ℕ) → Request → Entity s
distance_of s r = bare s r 64 entity_kind.DISTANCE false (Own (param_item r 64))

abbrev pub curve_of : (s : ℕ) → Request → Shape → Entity s
curve_of s r h = record {
  id = entity_item r 0;
  kind = h.entity;
  group = r.group;
  construction = r.construction;
  points = each_below h.points (λ i. entity_item r (i + 1));
  normal = if h.has_normal then entity_item r 32 else none;
  distance = if h.has_distance then entity_item r 64 else none;
  workplane = r.workplane;
  numbers = Nothing;
}

abbrev pub shaped_entities : (s : ℕ) → Request → Option Shape → List (Entity s)
shaped_entities s r None = []
shaped_entities s r (Some h) =
    curve_of s r h ∷ each_below h.points (point_of s r) ++ only_if h.has_normal (normal_of s r ∷ []) ++ only_if h.has_distance (distance_of s r ∷ [])

-- all entities of a request, in rising handle order
unfoldable pub request_entities : (s : ℕ) → Request → List (Entity s)
request_entities s r =
    if r.kind == request_kind.DATUM_POINT then bare s r 0 (point_kind r) r.construction (Own (param_item r 16)) ∷ []
    else shaped_entities s r (shape_of r)

-- entity 0 and its parts
abbrev pub part_count : Shape → ℕ
part_count h = 1 + h.points + (if h.has_normal then 1 else 0) + (if h.has_distance then 1 else 0)

-- all its parameters, in rising handle order: those that its entities have by their own numbers, at any scale
abbrev pub request_params : (s : ℕ) → Request → List ParamId
request_params s r = flat_map own_params (request_entities s r)

-- ---- where parameters start that aren't stored

abbrev pub is_normal_drawn : Option Shape → Bool
is_normal_drawn None = false
is_normal_drawn (Some h) = h.has_normal

abbrev pub has_normal_in_space : Request → Bool
has_normal_in_space r = if in_plane r then false else is_normal_drawn (shape_of r)

-- parameter 32 of a normal in space starts at 1, so that the normal has length 1; every other parameter starts at 0
abbrev pub start_value : ℕ → Request → ℕ → ℤ
start_value s r i = if i == 32 then (if has_normal_in_space r then pos (2 ^ s) else pos 0) else pos 0
