-- The outline of a model: the order of its groups, all entities, and the remap lists extended; or the first fault (SolveSpace's file format).
use Rattle.std.specs.Prelude.{ℕ, ◌==◌, nat_lt, List, [], ◌∷◌, map, Option, Some, None, Bool, false, not, is_none, if◌then◌else◌, Result, Ok, Err}
use Rattle.std.specs.Option.{option_or}
use Rattle.sk_types.specs.declared.handle.EntityId.{EntityId}
use Rattle.sk_types.specs.declared.handle.GroupId.{GroupId}
use Rattle.sk_types.specs.declared.constraint.Constraint.{Constraint}
use Rattle.sk_types.specs.declared.constraint.Need.{Need}
use Rattle.sk_types.specs.declared.constraint.PartKind.{PartKind}
use Rattle.sk_types.specs.declared.constraint.PartKind.TheVariants.{Workplane}
use Rattle.sk_types.specs.declared.entity.Entity.{Entity}
use Rattle.sk_types.specs.declared.entity.Outline.{Outline}
use Rattle.sk_types.specs.declared.group.Group.{Group}
use Rattle.sk_types.specs.declared.request.Request.{Request}
use Rattle.sk_types.specs.Lookups.{entity_at}
use Rattle.sk_types.specs.Needs.{needs_of, part_takes}
use Rattle.sk_types.specs.Sizes.{unknowns_of, rows_of}
use Rattle.sk_copy.specs.Order.{by_handle}
use Rattle.sk_model.specs.declared.faults.ModelFault.{ModelFault}
use Rattle.sk_model.specs.declared.faults.ModelFault.TheVariants.{NoSuch, Ahead, BadValue, TooMany}
use Rattle.sk_model.specs.declared.faults.What.TheVariants as what
use Rattle.sk_model.specs.declared.remap.GroupList.{GroupList}
use Rattle.sk_model.specs.Chain.{then_of, unless}
use Rattle.sk_model.specs.Changes.{with_lists}
use Rattle.sk_model.specs.Typed.{Typed, fault_if}
use Rattle.sk_link.specs.declared.parts.Part.{Part}
use Rattle.sk_chain.specs.declared.made.Made.{Made}
use Rattle.sk_chain.specs.Order.{group_order, groups_in_order}
use Rattle.sk_chain.specs.Lookups.{place_in}
use Rattle.sk_chain.specs.Made.{all_made, made_from}

-- the first fault of things in a row
abbrev pub first_fault : {T : Type 0} → (T → Option ModelFault) → List T → Option ModelFault
first_fault fault [] = None
first_fault fault (x ∷ xs) = option_or (fault x) (first_fault fault xs)

-- ---- groups that are named

-- a thing is refused where the group that it names isn't there
abbrev pub group_fault : List GroupId → ℕ → GroupId → Option ModelFault
group_fault order id g = fault_if (is_none (place_in g.0 order)) (NoSuch id g.0)

abbrev pub request_group_fault : List GroupId → Request → Option ModelFault
request_group_fault order r = group_fault order r.id.0 r.group

abbrev pub constraint_group_fault : {s : ℕ} → List GroupId → Constraint s → Option ModelFault
constraint_group_fault order c = group_fault order c.id.0 c.group

-- ---- entities that are named

-- the first place is behind the second
abbrev pub is_later : Option ℕ → Option ℕ → Bool
is_later None o = false
is_later (Some i) None = false
is_later (Some i) (Some j) = nat_lt j i

-- a thing of a group names an entity: one that isn't there, one of a later group, and one that doesn't fit are refused
abbrev pub found_fault : {s : ℕ} → List GroupId → ℕ → GroupId → EntityId → PartKind → Option (Entity s) → Option ModelFault
found_fault order id g target part None = Some (NoSuch id target.0)
found_fault order id g target part (Some e) =
    if is_later (place_in e.group.0 order) (place_in g.0 order) then Some (Ahead id target.0) else
    fault_if (not (part_takes part e.kind)) (BadValue id)

abbrev pub named_fault : {s : ℕ} → List GroupId → List (Entity s) → ℕ → GroupId → EntityId → PartKind → Option ModelFault
named_fault order es id g target part = found_fault order id g target part (entity_at target.0 es)

-- no workplane is none to refuse
abbrev pub workplane_fault : {s : ℕ} → List GroupId → List (Entity s) → ℕ → GroupId → EntityId → Option ModelFault
workplane_fault order es id g target = if target.0 == 0 then None else named_fault order es id g target Workplane

-- a part that is needed has to be named
abbrev pub need_fault : {s : ℕ} → List GroupId → List (Entity s) → ℕ → GroupId → Need → Option ModelFault
need_fault order es id g n = if n.entity.0 == 0 then Some (BadValue id) else named_fault order es id g n.entity n.part

abbrev pub request_fault : {s : ℕ} → List GroupId → List (Entity s) → Request → Option ModelFault
request_fault order es r = workplane_fault order es r.id.0 r.group r.workplane

abbrev pub constraint_fault : {s : ℕ} → List GroupId → List (Entity s) → Constraint s → Option ModelFault
constraint_fault order es c = option_or
    (workplane_fault order es c.id.0 c.group c.workplane)
    (first_fault (need_fault order es c.id.0 c.group) (needs_of c.kind c.points c.entities))

-- ---- sizes

abbrev pub size_fault : {s : ℕ} → List (Constraint s) → List (Entity s) → Group s → Option ModelFault
size_fault cs es g = option_or
    (fault_if (nat_lt 400 (unknowns_of cs es g)) (TooMany what.Unknowns))
    (fault_if (nat_lt 400 (rows_of cs es g)) (TooMany what.Rows))

-- ---- the whole

-- groups that requests and constraints name have to be there
unfoldable pub groups_fault : {s : ℕ} → Typed s → List GroupId → Option ModelFault
groups_fault m order = option_or (first_fault (request_group_fault order) m.requests) (first_fault (constraint_group_fault order) m.constraints)

-- entities that they name have to be there and fit; then the groups have to be small
unfoldable pub entities_fault : {s : ℕ} → Typed s → List GroupId → List (Entity s) → Option ModelFault
entities_fault m order es =
    option_or (first_fault (request_fault order es) m.requests) (
    option_or (first_fault (constraint_fault order es) m.constraints) (
    first_fault (size_fault m.constraints es) (groups_in_order m.groups)))

-- an outline, and the remap lists of all groups, extended, in group order
pub record Outlined (s : ℕ) : Type 0 where
  pub outline : Outline s
  pub lists : List GroupList

abbrev pub lists_of : {s : ℕ} → List (Made s) → List GroupList
lists_of made = map (λ m. record { group = m.group; entries = m.list }) made

abbrev pub outline_over : {s : ℕ} → Typed s → List (Made s) → Result (Outlined s) ModelFault
outline_over m made =
    unless (entities_fault m (group_order m.groups) (by_handle (all_made made))) (
    Ok (record { outline = record { order = group_order m.groups; entities = by_handle (all_made made) }; lists = lists_of made }))

-- what all groups make, in group order
unfoldable pub groups_made : {s : ℕ} → List (Part s) → Typed s → Result (List (Made s)) ModelFault
groups_made parts m = made_from m.requests m.groups parts [] (groups_in_order m.groups)

-- over the linked parts, of which each group has its own
unfoldable pub outlined : {s : ℕ} → List (Part s) → Typed s → Result (Outlined s) ModelFault
outlined parts m =
    unless (groups_fault m (group_order m.groups)) (
    then_of (groups_made parts m) (outline_over m))

-- ---- what a call answers, and the model that it leaves

abbrev pub outline_in : {s : ℕ} → Result (Outlined s) ModelFault → Result (Outline s) ModelFault
outline_in (Ok o) = Ok o.outline
outline_in (Err f) = Err f

abbrev pub lists_in : {s : ℕ} → Result (Outlined s) ModelFault → List GroupList
lists_in (Ok o) = o.lists
lists_in (Err f) = []

-- the model with those of the lists that grew
abbrev pub relisted : {s : ℕ} → List GroupList → Typed s → Typed s
relisted lists m = record m { groups = with_lists lists m.groups }
