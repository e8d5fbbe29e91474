-- Each group's works: its parameters, where they start, its frame, its system, and what it leaves.
use Rattle.std.specs.Prelude.{ℕ, ◌==◌, ◌||◌, ◌-◌, ◌^◌, nat_lt, nat_eq, ℤ, pos, neg_ℤ, ◌-ℤ◌, List, [], ◌∷◌, ◌++◌, map, get_or, Bool, false, Option, Some, None, is_some, unwrap_or, slice_get, Result, Ok, Err, if◌then◌else◌}
use Rattle.std.specs.List.{filter, find, flat_map}
use Rattle.sk_num.specs.Limit.{grid_of}
use Rattle.sk_types.specs.declared.handle.EntityId.{EntityId}
use Rattle.sk_types.specs.declared.handle.GroupId.{GroupId}
use Rattle.sk_types.specs.declared.handle.Maker.{Maker}
use Rattle.sk_types.specs.declared.handle.Maker.TheVariants.{OfRequest, OfGroup}
use Rattle.sk_types.specs.declared.handle.ParamId.{ParamId}
use Rattle.sk_types.specs.declared.handle.RequestId.{RequestId}
use Rattle.sk_types.specs.declared.constraint.Constraint.{Constraint}
use Rattle.sk_types.specs.declared.entity.Act.{Act}
use Rattle.sk_types.specs.declared.entity.Entity.{Entity}
use Rattle.sk_types.specs.declared.entity.Numbers.{Numbers}
use Rattle.sk_types.specs.declared.entity.Outline.{Outline}
use Rattle.sk_types.specs.declared.entity.ParamValue.{ParamValue}
use Rattle.sk_types.specs.declared.group.Group.{Group}
use Rattle.sk_types.specs.declared.group.GroupKind.{GroupKind}
use Rattle.sk_types.specs.declared.group.GroupKind.TheVariants.{Space, Plane, Extrude, Translate, Linked}
use Rattle.sk_types.specs.declared.request.Request.{Request}
use Rattle.sk_types.specs.Handles.{item_of_group, maker_of}
use Rattle.sk_types.specs.Kinds.{has_numbers, is_face}
use Rattle.sk_types.specs.Lookups.{entity_at, act_at, place_of}
use Rattle.sk_types.specs.Needs.{named}
use Rattle.sk_types.specs.Params.{own_params, group_params, unknown_params}
use Rattle.sk_entity.specs.Requests.{start_value}
use Rattle.sk_copy.specs.Order.{in_order}
use Rattle.sk_chain.specs.Lookups.{group_at}
use Rattle.sk_expr.specs.Seen.{Seen}
use Rattle.sk_expr.specs.Poly.{Poly}
use Rattle.sk_expr.specs.Readings.{reading}
use Rattle.sk_geom.specs.declared.fault.FrameFault.{FrameFault}
use Rattle.sk_geom.specs.LineFrame.{all_of, within, then_frame, line_frame}
use Rattle.sk_geom.specs.EntityTrees.{frame}
use Rattle.sk_geom.specs.Sources.{Source, values_or_zeros}
use Rattle.sk_model.specs.Changes.{with_params}
use Rattle.sk_system.specs.GroupSystem.{GroupSystem, group_system, seen_at, acts_at}
use Rattle.sk_regen.specs.Works.{Works}
use Rattle.sk_regen.specs.Regeneration.{point_of, fixed_of, with_act, with_acts}

-- the group with a handle, or where there is none
abbrev pub or_none : {s : ℕ} {T : Type 0} → T → (Group s → T) → Option (Group s) → T
or_none none f None = none
or_none none f (Some g) = f g

abbrev pub in_group : {s : ℕ} {T : Type 0} → List (Group s) → T → (Group s → T) → GroupId → T
in_group gs none f g = or_none none f (group_at g.0 gs)

-- ---- its parameters

-- all of its own: those that would be unknown if no constraint fixed a point
abbrev pub params_of : {s : ℕ} → List (Entity s) → Group s → List ParamId
params_of es g = unknown_params [] es g

abbrev pub is_one_of : List ParamId → ParamId → Bool
is_one_of ps p = is_some (place_of p.0 ps)

abbrev pub request_handle : Request → RequestId
request_handle r = r.id

-- ---- where they start

-- what a group's trees are made from before any of its parameters is there
abbrev pub numbers_source : {s : ℕ} → List (Entity s) → Numbers s → GroupId → Source s
numbers_source es n g = record { entities = es; params = n.params; acts = n.acts; unknowns = []; group = g }

abbrev pub no_point : Seen
no_point = record { unknowns = []; rows = []; cosines = []; forced = [] }

-- the reading of a polynomial of numbers, 0 for one that passes the limit and for none
abbrev pub plain_reading : ℕ → Option (Poly ℤ) → ℤ
plain_reading s None = pos 0
plain_reading s (Some t) = unwrap_or (reading s no_point t) (pos 0)

abbrev pub component_reading : ℕ → ℕ → List (Poly ℤ) → ℤ
component_reading s i a = plain_reading s (slice_get a i)

-- a component of the normal vector of a workplane
abbrev pub normal_reading : {s : ℕ} → Source s → ℕ → Option (Entity s) → ℤ
normal_reading o i None = pos 0
normal_reading {s} o i (Some w) = component_reading s i (frame o w).n

-- an extrusion goes along the normal of its workplane
abbrev pub along : {s : ℕ} → List (Entity s) → Numbers s → Group s → ℕ → ℤ
along es n g i = if g.entity_b.0 == 0 then pos 0 else normal_reading (numbers_source es n g.id) i (entity_at g.entity_b.0 es)

-- item 3 of a linked part is the first number of its quaternion
abbrev pub unturned : ℕ → ℕ → ℤ
unturned s i = if i == 3 then pos (2 ^ s) else pos 0

abbrev pub group_start : {s : ℕ} → GroupKind → List (Entity s) → Numbers s → Group s → ℕ → ℤ
group_start Space es n g i = pos 0
group_start Plane es n g i = pos 0
group_start Extrude es n g i = along es n g i
group_start Translate es n g i = pos 0
group_start {s} Linked es n g i = unturned s i

abbrev pub drawn_start : ℕ → ℕ → Option Request → ℤ
drawn_start s i None = pos 0
drawn_start s i (Some r) = start_value s r i

abbrev pub start_by : {s : ℕ} → List Request → List (Entity s) → Numbers s → Group s → Maker → ℤ
start_by {s} rs es n g (OfRequest r i) = drawn_start s i (find (λ (q : Request). nat_eq r.0 q.id.0) rs)
start_by rs es n g (OfGroup h i) = group_start g.kind es n g i

unfoldable pub start_of : {s : ℕ} → List Request → List (Entity s) → Numbers s → Group s → ParamId → ℤ
start_of rs es n g p = start_by rs es n g (maker_of p.0)

-- ---- the frame of a drawing by line segments

-- where an entity stands
abbrev pub stands_at : {s : ℕ} → List (Act s) → EntityId → ℕ → ℤ
stands_at acts e i = get_or (values_or_zeros (act_at e.0 acts)) i (pos 0)

-- the vector from the second point of a line to its first, none past the limit
abbrev pub vector_of : {s : ℕ} → List (Act s) → Option (Entity s) → Option (List ℤ)
vector_of acts None = Some (pos 0 ∷ pos 0 ∷ pos 0 ∷ [])
vector_of acts (Some e) = all_of (map (λ (i : ℕ). grid_of (stands_at acts (named e.points 0) i -ℤ stands_at acts (named e.points 1) i)) (0 ∷ 1 ∷ 2 ∷ []))

unfoldable pub frame_of : {s : ℕ} → List (Entity s) → List (Act s) → Group s → Result (List ℤ) FrameFault
frame_of {s} es acts g =
    then_frame (λ u. then_frame (λ v. line_frame s u v g.swap_uv g.negate_u g.negate_v)
    (within (vector_of acts (entity_at g.entity_c.0 es)))) (within (vector_of acts (entity_at g.entity_b.0 es)))

abbrev pub fault_in : Result (List ℤ) FrameFault → Option FrameFault
fault_in (Ok q) = None
fault_in (Err e) = Some e

-- a frame that isn't there is that of no turn
abbrev pub quaternion_in : ℕ → Result (List ℤ) FrameFault → List ℤ
quaternion_in s (Ok q) = q
quaternion_in s (Err e) = pos (2 ^ s) ∷ pos 0 ∷ pos 0 ∷ pos 0 ∷ []

abbrev pub bad_frame_of : {s : ℕ} → List (Entity s) → List (Act s) → Group s → Option FrameFault
bad_frame_of es acts g = if g.by_lines then fault_in (frame_of es acts g) else None

-- its normal, item 1 of the group, stands along that frame
abbrev pub own_normal : {s : ℕ} → Group s → EntityId
own_normal g = record { 0 = item_of_group g.id.0 1 }

abbrev pub framed : {s : ℕ} → List (Entity s) → List (Act s) → Group s → List (Act s)
framed {s} es acts g = if g.by_lines then with_act (record { entity = own_normal g; values = quaternion_in s (frame_of es acts g) }) acts else acts

-- ---- its system

-- the numbers so far, with the group's fixed parameters and its frame
abbrev pub ready : {s : ℕ} → List (Entity s) → Numbers s → Group s → List (ParamValue s) → Numbers s
ready es n g fixed = record { params = with_params fixed n.params; acts = framed es n.acts g }

abbrev pub system_of : {s : ℕ} → List (Entity s) → List (Constraint s) → Numbers s → Group s → List (ParamValue s) → GroupSystem
system_of es cs n g fixed = group_system g es cs (ready es n g fixed)

unfoldable pub seen_of : {s : ℕ} → List (Entity s) → List (Constraint s) → Numbers s → Group s → List (ParamValue s) → List ℤ → Option Seen
seen_of {s} es cs n g fixed x = seen_at s (system_of es cs n g fixed) x

unfoldable pub acts_of : {s : ℕ} → List (Entity s) → List (Constraint s) → Numbers s → Group s → List (ParamValue s) → List (Act s)
acts_of es cs n g ps =
    let t = is_one_of (unknown_params cs es g) in
    acts_at (system_of es cs n g (fixed_of t ps)) (point_of t ps)

-- ---- before any group is regenerated

abbrev pub nought : {s : ℕ} → ParamId → ParamValue s
nought p = record { id = p; value = pos 0 }

abbrev pub param_before : {s : ℕ} → ParamValue s → ParamValue s → Bool
param_before p q = nat_lt p.id.0 q.id.0

-- those of entities and of groups, by rising handle
abbrev pub all_params : {s : ℕ} → List (Group s) → List (Entity s) → List (ParamValue s)
all_params gs es = in_order param_before (map nought (flat_map own_params es ++ flat_map group_params gs))

abbrev pub no_act : {s : ℕ} → Entity s → Act s
no_act e = record { entity = e.id; values = pos 0 ∷ pos 0 ∷ pos 0 ∷ pos 0 ∷ [] }

abbrev pub stands : {s : ℕ} → Entity s → Bool
stands e = has_numbers e.kind || is_face e.kind

-- of points, normals, distances and faces
abbrev pub all_acts : {s : ℕ} → List (Entity s) → List (Act s)
all_acts es = map no_act (filter stands es)

abbrev pub blank : {s : ℕ} → List (Group s) → List (Entity s) → Numbers s
blank gs es = record { params = all_params gs es; acts = all_acts es }

-- ---- group 1

-- The normals of the planes XY, YZ and ZX: no turn, and a third of a turn about (1, 1, 1), one way and the other.
abbrev pub reference_quaternions : ℕ → List (List ℤ)
reference_quaternions s =
    let h = pos (2 ^ (s - 1)) in
    let m = neg_ℤ h in
    (pos (2 ^ s) ∷ pos 0 ∷ pos 0 ∷ pos 0 ∷ []) ∷ (h ∷ h ∷ h ∷ h ∷ []) ∷ (h ∷ m ∷ m ∷ m ∷ []) ∷ []

-- parameters 32 to 35 of requests 1 to 3 are these; their origins are 0
abbrev pub reference_by : ℕ → Maker → ℤ
reference_by s (OfRequest r i) = if nat_lt i 32 then pos 0 else get_or (get_or (reference_quaternions s) (r.0 - 1) []) (i - 32) (pos 0)
reference_by s (OfGroup g i) = pos 0

abbrev pub reference : (s : ℕ) → ParamId → ParamValue s
reference s p = record { id = p; value = reference_by s (maker_of p.0) }

abbrev pub first_group : GroupId
first_group = record { 0 = 1 }

-- its parameters, whatever is stored
unfoldable pub references : {s : ℕ} → List (Group s) → List (Entity s) → List (ParamValue s)
references {s} gs es = in_group gs [] (λ (g : Group s). map (reference s) (params_of es g)) first_group

abbrev pub reference_acts : {s : ℕ} → List (Group s) → List (Entity s) → List (Constraint s) → List (Act s)
reference_acts {s} gs es cs = in_group gs [] (λ (g : Group s). acts_of es cs (blank gs es) g (references gs es)) first_group

unfoldable pub first_numbers : {s : ℕ} → List (Group s) → List (Entity s) → List (Constraint s) → Numbers s
first_numbers gs es cs = record { params = with_params (references gs es) (all_params gs es); acts = with_acts (reference_acts gs es cs) (all_acts es) }

-- ---- the works of a model

unfoldable pub works : {s : ℕ} → List (Group s) → List Request → List (Constraint s) → Outline s → Works s
works {s} gs rs cs o = record {
  own = in_group gs [] (params_of o.entities);
  is_unknown = in_group gs (λ p. false) (λ g. is_one_of (unknown_params cs o.entities g));
  start = λ n. in_group gs (λ p. pos 0) (start_of rs o.entities n);
  bad_frame = λ n. in_group gs None (bad_frame_of o.entities n.acts);
  seen = λ n. in_group gs (λ fixed x. None) (seen_of o.entities cs n);
  acts = λ n. in_group gs (λ ps. []) (acts_of o.entities cs n);
  first = first_numbers gs o.entities cs;
}
