-- The typed model of a text: the records of each kind in file order, or the first fault (SolveSpace's file format).
use Rattle.std.specs.Prelude.{ℕ, ◌==◌, ◌&&◌, nat_lt, List, [], ◌∷◌, Option, Some, None, Bool, true, false, not, length, count_by, if◌then◌else◌, Result, Ok}
use Rattle.std.specs.Option.{option_map, option_or}
use Rattle.std.specs.List.{list_any}
use Rattle.sk_types.specs.declared.group.Group.{Group}
use Rattle.sk_types.specs.declared.group.GroupKind.{GroupKind}
use Rattle.sk_types.specs.declared.group.GroupKind.TheVariants.{Space, Plane, Extrude, Translate, Linked}
use Rattle.sk_types.specs.declared.entity.ParamValue.{ParamValue}
use Rattle.sk_types.specs.declared.request.Request.{Request}
use Rattle.sk_types.specs.declared.request_kind.TheConstants as request_kind
use Rattle.sk_types.specs.declared.constraint.Constraint.{Constraint}
use Rattle.sk_types.specs.Lookups.{value_handle}
use Rattle.sk_records.specs.declared.kinds.Kind.TheVariants as kind
use Rattle.sk_records.specs.Rows.{Row}
use Rattle.sk_records.specs.Blocks.{Block, records}
use Rattle.sk_model.specs.declared.faults.ModelFault.{ModelFault}
use Rattle.sk_model.specs.declared.faults.ModelFault.TheVariants.{LeftOut, NoSuch, TooMany}
use Rattle.sk_model.specs.declared.faults.Reason.TheVariants as reason
use Rattle.sk_model.specs.declared.faults.What.TheVariants as what
use Rattle.sk_model.specs.Chain.{then_of, unless, all_of}
use Rattle.sk_model.specs.Groups.{group_of}
use Rattle.sk_model.specs.Params.{param_of}
use Rattle.sk_model.specs.Requests.{request_of}
use Rattle.sk_model.specs.Constraints.{constraint_of}

-- what a model has: groups, parameters, requests and constraints, each in file order
pub record Typed (s : ℕ) : Type 0 where
  pub groups : List (Group s)
  pub params : List (ParamValue s)
  pub requests : List Request
  pub constraints : List (Constraint s)

abbrev pub group_handle : {s : ℕ} → Group s → ℕ
group_handle g = g.id.0

abbrev pub request_handle : Request → ℕ
request_handle r = r.id.0

abbrev pub constraint_handle : {s : ℕ} → Constraint s → ℕ
constraint_handle c = c.id.0

abbrev pub groups_of : (s : ℕ) → List (List Row) → Result (List (Group s)) ModelFault
groups_of s rs = all_of group_handle (group_of s) [] rs

abbrev pub params_of : (s : ℕ) → List (List Row) → Result (List (ParamValue s)) ModelFault
params_of s rs = all_of value_handle (param_of s) [] rs

abbrev pub requests_of : List (List Row) → Result (List Request) ModelFault
requests_of rs = all_of request_handle request_of [] rs

abbrev pub constraints_of : (s : ℕ) → List (List Row) → Result (List (Constraint s)) ModelFault
constraints_of s rs = all_of constraint_handle (constraint_of s) [] rs

-- ---- what holds of all records together

abbrev pub is_space_kind : GroupKind → Bool
is_space_kind Space = true
is_space_kind Plane = false
is_space_kind Extrude = false
is_space_kind Translate = false
is_space_kind Linked = false

abbrev pub is_linked_kind : GroupKind → Bool
is_linked_kind Space = false
is_linked_kind Plane = false
is_linked_kind Extrude = false
is_linked_kind Translate = false
is_linked_kind Linked = true

-- group 1, a drawing in space
abbrev pub is_first_group : {s : ℕ} → Group s → Bool
is_first_group g = g.id.0 == 1 && is_space_kind g.kind

-- a workplane in group 1 with this number
abbrev pub is_reference : ℕ → Request → Bool
is_reference n r = r.id.0 == n && (r.kind == request_kind.WORKPLANE && r.group.0 == 1)

-- the first of the numbers that no reference workplane has
abbrev pub missing_of : List ℕ → List Request → Option ℕ
missing_of [] rs = None
missing_of (n ∷ ns) rs = if list_any (is_reference n) rs then missing_of ns rs else Some n

-- a request in group 1 other than the references
abbrev pub is_stray : Request → Bool
is_stray r = r.group.0 == 1 && nat_lt 3 r.id.0

abbrev pub stray_request : List Request → Option ModelFault
stray_request [] = None
stray_request (r ∷ rs) = if is_stray r then Some (LeftOut r.id.0 reason.References) else stray_request rs

abbrev pub stray_constraint : {s : ℕ} → List (Constraint s) → Option ModelFault
stray_constraint [] = None
stray_constraint (c ∷ cs) = if c.group.0 == 1 then Some (LeftOut c.id.0 reason.References) else stray_constraint cs

abbrev pub count_linked : {s : ℕ} → List (Group s) → ℕ
count_linked gs = count_by (λ g. is_linked_kind g.kind) gs

abbrev pub fault_if : Bool → ModelFault → Option ModelFault
fault_if test fault = if test then Some fault else None

-- group 1 and the three reference workplanes stand, with nothing else in group 1; at most 1,000 groups, 16 of them linked
unfoldable pub whole_fault : (s : ℕ) → List (Group s) → List Request → List (Constraint s) → Option ModelFault
whole_fault s groups requests constraints =
    option_or (fault_if (not (list_any is_first_group groups)) (NoSuch 1 1)) (
    option_or (option_map (NoSuch 1) (missing_of (1 ∷ 2 ∷ 3 ∷ []) requests)) (
    option_or (stray_request requests) (
    option_or (stray_constraint constraints) (
    option_or (fault_if (nat_lt 1000 (length groups)) (TooMany what.Groups)) (
    fault_if (nat_lt 16 (count_linked groups)) (TooMany what.Links))))))

-- the typed model, or the first fault: groups, parameters, requests, constraints, then all together
unfoldable pub typed : (s : ℕ) → List Block → Result (Typed s) ModelFault
typed s bs =
    then_of (groups_of s (records kind.Group bs)) (λ groups.
    then_of (params_of s (records kind.Param bs)) (λ params.
    then_of (requests_of (records kind.Request bs)) (λ requests.
    then_of (constraints_of s (records kind.Constraint bs)) (λ constraints.
    unless (whole_fault s groups requests constraints) (
    Ok (record { groups = groups; params = params; requests = requests; constraints = constraints }))))))
