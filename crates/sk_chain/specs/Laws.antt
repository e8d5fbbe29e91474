-- What holds of the outline of a model.
use Rattle.std.specs.Prelude.{◌≡◌, ◌≢◌, ◌≤◌, ◌<◌, ◌^◌, ⊤, ℕ, nat_eq, List, length, map, true, Some, Ok}
use Rattle.std.specs.List.{All, Contains, IsDistinct, flat_map}
use Rattle.sk_types.specs.declared.handle.EntityId.{EntityId}
use Rattle.sk_types.specs.declared.handle.GroupId.{GroupId}
use Rattle.sk_types.specs.declared.handle.ParamId.{ParamId}
use Rattle.sk_types.specs.declared.constraint.PartKind.{PartKind}
use Rattle.sk_types.specs.declared.constraint.PartKind.TheVariants.{Point, Workplane, Line}
use Rattle.sk_types.specs.declared.entity.Entity.{Entity}
use Rattle.sk_types.specs.declared.entity.Outline.{Outline}
use Rattle.sk_types.specs.declared.entity.ParamValue.{ParamValue}
use Rattle.sk_types.specs.declared.group.Group.{Group}
use Rattle.sk_types.specs.declared.group.GroupKind.{GroupKind}
use Rattle.sk_types.specs.declared.group.GroupKind.TheVariants.{Space, Plane, Extrude, Translate, Linked}
use Rattle.sk_types.specs.declared.request.Request.{Request}
use Rattle.sk_types.specs.Lookups.{Rise, RiseBy, entity_at, param_handle}
use Rattle.sk_types.specs.Params.{OwnFit, own_params, unknown_params}
use Rattle.sk_types.specs.Parts.{HasParts, stands_for}
use Rattle.sk_types.specs.Sizes.{rows_of, unknowns_of}
use Rattle.sk_entity.specs.Requests.{request_entities}
use Rattle.sk_model.specs.declared.remap.GroupList.{GroupList}
use Rattle.sk_model.specs.Changes.{list_handle}
use Rattle.sk_model.specs.Checked.{AreChecked}
use Rattle.sk_model.specs.Settable.{HasSources, IsGroupList}
use Rattle.sk_model.specs.Typed.{Typed}
use Rattle.sk_link.specs.declared.parts.Part.{Part}
use Rattle.sk_chain.specs.Known.{AreGroups, IsHome, IsReadPart, place_handle}
use Rattle.sk_chain.specs.Lookups.{group_at}
use Rattle.sk_chain.specs.Order.{group_order}
use Rattle.sk_chain.specs.Outlines.{Outlined, outlined, relisted}

-- the handle of an entity leads back to its group, which stands in the model
abbrev pub LeadsBack : {s : ℕ} → Typed s → Entity s → Type 0
LeadsBack m e = IsHome m.requests m.groups e.group e

-- at most 400 unknowns and 400 rows; what is unknown of parameters stands by rising handle
pub record IsSmallGroup {s : ℕ} (m : Typed s) (es : List (Entity s)) (g : Group s) : Type 0 where
  pub unknowns : unknowns_of m.constraints es g ≤ 400
  pub rows : rows_of m.constraints es g ≤ 400
  pub params_rise : RiseBy param_handle (unknown_params m.constraints es g)

-- the group with the handle stands among these
pub record IsFound {s : ℕ} (gs : List (Group s)) (g : GroupId) : Type 0 where
  pub group : Group s
  pub found : group_at g.0 gs ≡ Some group
  pub same : group.id ≡ g

-- an entity that is named is there, and can stand in the part's place
abbrev pub IsThere : {s : ℕ} → List (Entity s) → EntityId → PartKind → Type 0
IsThere es e part = stands_for (entity_at e.0 es) part ≡ true

-- what a group names: of a drawing in a workplane its origin, and the two lines where they give its frame; of what is extruded or
-- translated its workplane, if there is one
abbrev pub HasNamedBy : {s : ℕ} → GroupKind → List (Entity s) → Group s → Type 0
HasNamedBy Space es g = ⊤
HasNamedBy Plane es g = IsThere es g.origin Point × (g.by_lines ≡ true → IsThere es g.entity_b Line × IsThere es g.entity_c Line)
HasNamedBy Extrude es g = g.entity_b.0 ≢ 0 → IsThere es g.entity_b Workplane
HasNamedBy Translate es g = g.entity_b.0 ≢ 0 → IsThere es g.entity_b Workplane
HasNamedBy Linked es g = ⊤

abbrev pub HasNamed : {s : ℕ} → List (Entity s) → Group s → Type 0
HasNamed es g = HasNamedBy g.kind es g

pub record IsOutlineOf {s : ℕ} (m : Typed s) (o : Outline s) : Type 0 where
  -- the groups in their order, none twice, at most 1,000
  pub order : o.order ≡ group_order m.groups
  pub groups_differ : IsDistinct nat_eq (map place_handle o.order)
  pub few_groups : length o.order ≤ 1000
  pub found : All (IsFound m.groups) o.order
  -- the entities by rising handle, each once, at most 200,000; each leads back to its group
  pub rise : Rise o.entities
  pub few : length o.entities ≤ 200000
  pub homes : All (LeadsBack m) o.entities
  -- what requests draw is among them
  pub drawn : All (λ (r : Request). All (Contains o.entities) (request_entities s r)) m.requests
  -- no parameter is an entity's own twice; they stand below those that groups have
  pub own_rise : RiseBy param_handle (flat_map own_params o.entities)
  pub own_within : All (λ (p : ParamId). (65536 ≤ p.0) × (p.0 < 2 ^ 31)) (flat_map own_params o.entities)
  pub own_fit : OwnFit o.entities
  -- what groups and constraints need is there
  pub named : All (HasNamed o.entities) m.groups
  pub parts : All (HasParts o.entities) m.constraints
  -- each group is small
  pub groups_small : All (IsSmallGroup m o.entities) m.groups

-- an outline, and lists that may be set, each once
pub record IsOutlined {s : ℕ} (m : Typed s) (o : Outlined s) : Type 0 where
  pub outline : IsOutlineOf m o.outline
  pub lists : All (IsGroupList m.groups) o.lists
  pub sources : All (λ (x : GroupList). HasSources x.entries) o.lists
  pub differ : IsDistinct nat_eq (map list_handle o.lists)

-- So is every outline of a typed model over parts that were read.
abbrev pub OutlineLaw : Type 0
OutlineLaw = (s : ℕ) (parts : List (Part s)) (m : Typed s) (o : Outlined s) → AreChecked m → All IsReadPart parts → outlined parts m ≡ Ok o → IsOutlined m o

-- An outline doesn't look at parameters: with others it has the same entities and lists, or the same fault.
abbrev pub ParamsLaw : Type 0
ParamsLaw = (s : ℕ) (parts : List (Part s)) (m : Typed s) (params : List (ParamValue s)) → outlined parts (record m { params = params }) ≡ outlined parts m

-- The model with extended lists has the same outline and the same lists, so that they don't grow again.
abbrev pub AgainLaw : Type 0
AgainLaw = (s : ℕ) (parts : List (Part s)) (m : Typed s) (o : Outlined s) → AreGroups m.groups → outlined parts m ≡ Ok o → outlined parts (relisted o.lists m) ≡ Ok o
