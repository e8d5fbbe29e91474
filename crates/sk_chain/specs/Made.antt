-- What the groups of a model make, group after group, or the first fault of what they name and make (SolveSpace's file format).
use Rattle.std.specs.Prelude.{ℕ, ◌==◌, nat_lt, List, [], ◌∷◌, ◌++◌, length, Option, Some, None, Bool, if◌then◌else◌, not, is_none, Result, Ok, Err}
use Rattle.std.specs.Option.{option_map, option_or}
use Rattle.std.specs.List.{filter, find, flat_map, list_any}
use Rattle.sk_types.specs.declared.handle.EntityId.{EntityId}
use Rattle.sk_types.specs.declared.handle.GroupId.{GroupId}
use Rattle.sk_types.specs.declared.handle.Maker.{Maker}
use Rattle.sk_types.specs.declared.handle.Maker.TheVariants.{OfRequest, OfGroup}
use Rattle.sk_types.specs.declared.constraint.PartKind.{PartKind}
use Rattle.sk_types.specs.declared.constraint.PartKind.TheVariants.{Point, Workplane, Line}
use Rattle.sk_types.specs.declared.entity.Entity.{Entity}
use Rattle.sk_types.specs.declared.group.Group.{Group}
use Rattle.sk_types.specs.declared.group.GroupKind.{GroupKind}
use Rattle.sk_types.specs.declared.group.GroupKind.TheVariants.{Space, Plane, Extrude, Translate, Linked}
use Rattle.sk_types.specs.declared.request.Request.{Request}
use Rattle.sk_types.specs.Handles.{maker_of}
use Rattle.sk_types.specs.Lookups.{entity_at}
use Rattle.sk_types.specs.Needs.{part_takes}
use Rattle.sk_entity.specs.Requests.{request_entities}
use Rattle.sk_copy.specs.declared.fault.CopyFault.{CopyFault}
use Rattle.sk_copy.specs.declared.fault.CopyFault.TheVariants as copy
use Rattle.sk_copy.specs.Copies.{Copies, copies}
use Rattle.sk_copy.specs.Order.{by_handle}
use Rattle.sk_model.specs.declared.faults.ModelFault.{ModelFault}
use Rattle.sk_model.specs.declared.faults.ModelFault.TheVariants.{NoSuch, Ahead, BadValue, TooMany, NoMemory}
use Rattle.sk_model.specs.declared.faults.What.TheVariants as what
use Rattle.sk_model.specs.Chain.{then_of, refused, unless}
use Rattle.sk_model.specs.Typed.{fault_if}
use Rattle.sk_link.specs.declared.parts.Part.{Part}
use Rattle.sk_link.specs.Parts.{entities_of}
use Rattle.sk_chain.specs.declared.made.Made.{Made}
use Rattle.sk_chain.specs.Lookups.{group_at}

-- ---- the groups that are made so far

-- all their entities
abbrev pub all_made : {s : ℕ} → List (Made s) → List (Entity s)
all_made made = flat_map (λ m. m.entities) made

abbrev pub is_made : {s : ℕ} → ℕ → List (Made s) → Bool
is_made n made = list_any (λ m. n == m.group.0) made

-- the entities of one of them
abbrev pub made_in : {s : ℕ} → ℕ → List (Made s) → List (Entity s)
made_in n [] = []
made_in n (m ∷ made) = if n == m.group.0 then m.entities else made_in n made

-- ---- what a group names: things of groups that are made

-- a group that isn't made is ahead, where it is there
abbrev pub source_fault : {s : ℕ} → List (Group s) → List (Made s) → Group s → Option ModelFault
source_fault all made g =
    if is_made g.source.0 made then None else
    if is_none (group_at g.source.0 all) then Some (NoSuch g.id.0 g.source.0) else
    Some (Ahead g.id.0 g.source.0)

-- the group that an entity would belong to: its maker's, if that is there
abbrev pub group_by : {s : ℕ} → List Request → List (Group s) → Maker → Option GroupId
group_by rs all (OfRequest r i) = option_map (λ (q : Request). q.group) (find (λ (q : Request). r.0 == q.id.0) rs)
group_by rs all (OfGroup g i) = option_map (λ h. h.id) (group_at g.0 all)

-- an entity that isn't made is ahead, where the group that it would belong to is there and isn't made
abbrev pub unmade_fault : {s : ℕ} → List (Made s) → GroupId → EntityId → Option GroupId → ModelFault
unmade_fault made g target None = NoSuch g.0 target.0
unmade_fault made g target (Some by) = if is_made by.0 made then NoSuch g.0 target.0 else Ahead g.0 target.0

-- what is named has to be made, and to fit
abbrev pub made_fault : {s : ℕ} → ModelFault → GroupId → PartKind → Option (Entity s) → Option ModelFault
made_fault unmade g part None = Some unmade
made_fault unmade g part (Some e) = fault_if (not (part_takes part e.kind)) (BadValue g.0)

abbrev pub earlier_fault : {s : ℕ} → List Request → List (Group s) → List (Made s) → Group s → EntityId → PartKind → Option ModelFault
earlier_fault rs all made g target part =
    made_fault (unmade_fault made g.id target (group_by rs all (maker_of target.0))) g.id part (entity_at target.0 (all_made made))

-- the source group, then the workplane, if there is one
abbrev pub moved_fault : {s : ℕ} → List Request → List (Group s) → List (Made s) → Group s → Option ModelFault
moved_fault rs all made g =
    option_or (source_fault all made g) (if g.entity_b.0 == 0 then None else earlier_fault rs all made g g.entity_b Workplane)

-- the two lines that give the frame
abbrev pub lines_fault : {s : ℕ} → List Request → List (Group s) → List (Made s) → Group s → Option ModelFault
lines_fault rs all made g = option_or (earlier_fault rs all made g g.entity_b Line) (earlier_fault rs all made g g.entity_c Line)

-- the origin, then the lines
abbrev pub plane_fault : {s : ℕ} → List Request → List (Group s) → List (Made s) → Group s → Option ModelFault
plane_fault rs all made g = option_or (earlier_fault rs all made g g.origin Point) (if g.by_lines then lines_fault rs all made g else None)

abbrev pub names_by : {s : ℕ} → GroupKind → List Request → List (Group s) → List (Made s) → Group s → Option ModelFault
names_by Space rs all made g = None
names_by Plane rs all made g = plane_fault rs all made g
names_by Extrude rs all made g = moved_fault rs all made g
names_by Translate rs all made g = moved_fault rs all made g
names_by Linked rs all made g = None

unfoldable pub names_fault : {s : ℕ} → List Request → List (Group s) → List (Made s) → Group s → Option ModelFault
names_fault rs all made g = names_by g.kind rs all made g

-- ---- what a group makes

-- by its requests
abbrev pub drawn_in : (s : ℕ) → ℕ → List Request → List (Entity s)
drawn_in s n rs = flat_map (request_entities s) (filter (λ (r : Request). r.group.0 == n) rs)

-- what it copies: the entities of its source group, or of its part
abbrev pub copied_by : {s : ℕ} → GroupKind → List (Part s) → List (Made s) → Group s → List (Entity s)
copied_by Space parts made g = []
copied_by Plane parts made g = []
copied_by Extrude parts made g = made_in g.source.0 made
copied_by Translate parts made g = made_in g.source.0 made
copied_by Linked parts made g = entities_of g.id parts

-- the list is full, or a scaled number passes the limit
abbrev pub model_fault : GroupId → CopyFault → ModelFault
model_fault g copy.Full = TooMany what.Remap
model_fault g copy.PastLimit = BadValue g.0
model_fault g copy.NoMemory = NoMemory

-- the list extended, and all its entities in rising handle order
abbrev pub made_with : {s : ℕ} → GroupId → List (Entity s) → Result (Copies s) CopyFault → Result (Made s) ModelFault
made_with g drawn (Err f) = Err (model_fault g f)
made_with g drawn (Ok c) = Ok (record { group = g; list = c.list; entities = by_handle (drawn ++ c.entities) })

unfoldable pub made_by : {s : ℕ} → List Request → List (Part s) → List (Made s) → Group s → Result (Made s) ModelFault
made_by {s} rs parts made g = made_with g.id (drawn_in s g.id.0 rs) (copies g g.remap (copied_by g.kind parts made g))

abbrev pub few_made : {s : ℕ} → List (Made s) → Result (List (Made s)) ModelFault
few_made made = refused (nat_lt 200000 (length (all_made made))) (TooMany what.Entities) (Ok made)

-- one group more: what it names, then what it makes, then how many entities there are
abbrev pub one_made : {s : ℕ} → List Request → List (Group s) → List (Part s) → List (Made s) → Group s → Result (List (Made s)) ModelFault
one_made rs all parts made g =
    unless (names_fault rs all made g) (
    then_of (made_by rs parts made g) (λ m.
    few_made (made ++ m ∷ [])))

-- group after group
abbrev pub made_from : {s : ℕ} → List Request → List (Group s) → List (Part s) → List (Made s) → List (Group s) → Result (List (Made s)) ModelFault
made_from rs all parts made [] = Ok made
made_from rs all parts made (g ∷ gs) = then_of (one_made rs all parts made g) (λ more. made_from rs all parts more gs)
