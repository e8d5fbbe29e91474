-- Two models, before and after an edit, that are alike but for the groups of a list.
use Rattle.std.specs.Prelude.{◌≡◌, ◌==◌, ◌++◌, ℕ, List, [], ◌∷◌, false, true, not, Option, Some, unwrap_or, Ok, if◌then◌else◌}
use Rattle.std.specs.List.{All, filter, find}
use Rattle.std.specs.Option.{option_map, option_or}
use Rattle.sk_types.specs.declared.handle.EntityId.{EntityId}
use Rattle.sk_types.specs.declared.handle.GroupId.{GroupId}
use Rattle.sk_types.specs.declared.handle.Maker.{Maker}
use Rattle.sk_types.specs.declared.handle.Maker.TheVariants.{OfRequest, OfGroup}
use Rattle.sk_types.specs.declared.constraint.Constraint.{Constraint}
use Rattle.sk_types.specs.declared.entity.Entity.{Entity}
use Rattle.sk_types.specs.declared.entity.Outline.{Outline}
use Rattle.sk_types.specs.declared.group.Group.{Group}
use Rattle.sk_types.specs.declared.group.GroupKind.{GroupKind}
use Rattle.sk_types.specs.declared.group.GroupKind.TheVariants.{Space, Plane, Extrude, Translate, Linked}
use Rattle.sk_types.specs.declared.request.Request.{Request}
use Rattle.sk_types.specs.Handles.{maker_of}
use Rattle.sk_types.specs.Lookups.{value_of}
use Rattle.sk_records.specs.Blocks.{Block}
use Rattle.sk_model.specs.Checked.{AreChecked}
use Rattle.sk_model.specs.Typed.{Typed, typed}
use Rattle.sk_link.specs.declared.parts.Part.{Part}
use Rattle.sk_chain.specs.Dependence.{IsClosed, depends}
use Rattle.sk_chain.specs.Known.{IsReadPart}
use Rattle.sk_chain.specs.Laws.{IsOutlineOf}
use Rattle.sk_chain.specs.Outlines.{Outlined, outlined, relisted}
use Rattle.sk_solve.specs.declared.report.Listed.{Listed}
use Rattle.sk_system.specs.LookupLaws.{Reads, IsRead, NamesRead}
use Rattle.sk_system.specs.OutlineLaws.{NeededRead}
use Rattle.sk_regen.specs.Below.{below, model_works}
use Rattle.sk_regen.specs.FoldLaws.{Owners, SameOutside}
use Rattle.sk_regen.specs.NewText.{order_of, outcome, works_of}
use Rattle.sk_regen.specs.NewTextLaws.{IsFixed}
use Rattle.sk_regen.specs.Regeneration.{is_listed, regenerated_over}

-- ---- whose a handle is

abbrev pub nobody : GroupId
nobody = record { 0 = 0 }

abbrev pub request_at : ℕ → List Request → Option Request
request_at n rs = find (λ (q : Request). n == q.id.0) rs

abbrev pub group_of : Option Request → Option GroupId
group_of o = option_map (λ (q : Request). q.group) o

-- That of the request that makes it, as it stands after the edit, or else before; or the group that makes it. What is made by a
-- request that is in neither model is nobody's.
abbrev pub owner_by : List Request → List Request → Maker → GroupId
owner_by before now (OfRequest r i) = unwrap_or (option_or (group_of (request_at r.0 now)) (group_of (request_at r.0 before))) nobody
owner_by before now (OfGroup g i) = g

abbrev pub owner : List Request → List Request → ℕ → GroupId
owner before now h = owner_by before now (maker_of h)

abbrev pub owners : List Request → List Request → Owners
owners before now = record { of_param = owner before now; of_entity = owner before now }

-- ---- what stays

-- what isn't of a group of the list
abbrev pub outside : {X : Type 0} → List GroupId → (X → GroupId) → List X → List X
outside dirty group xs = filter (λ x. not (is_listed dirty (group x))) xs

-- The groups outside the list, with their requests, constraints and entities, are the same records in the same order; the values of
-- their parameters are stored as before. No request goes from one group to another.
pub record SameButFor {s : ℕ} (dirty : List GroupId) (l : Typed s) (o : Outline s) (m : Typed s) (p : Outline s) : Type 0 where
  pub groups : outside dirty (λ (g : Group s). g.id) m.groups ≡ outside dirty (λ (g : Group s). g.id) l.groups
  pub requests : outside dirty (λ (r : Request). r.group) m.requests ≡ outside dirty (λ (r : Request). r.group) l.requests
  pub constraints : outside dirty (λ (c : Constraint s). c.group) m.constraints ≡ outside dirty (λ (c : Constraint s). c.group) l.constraints
  pub entities : outside dirty (λ (e : Entity s). e.group) p.entities ≡ outside dirty (λ (e : Entity s). e.group) o.entities
  pub params : (h : ℕ) → is_listed dirty (owner l.requests m.requests h) ≡ false → value_of h m.params ≡ value_of h l.params
  pub stay : (n : ℕ) (q r : Request) → request_at n l.requests ≡ Some q → request_at n m.requests ≡ Some r → r.group ≡ q.group

-- ---- what is read

-- what isn't of a group of the list
abbrev pub kept : List GroupId → List Request → List Request → Reads
kept dirty before now = record { entities = λ h. not (is_listed dirty (owner before now h)); params = λ h. not (is_listed dirty (owner before now h)) }

-- the workplane of what is extruded or translated, and the lines that give a frame
abbrev pub plane_of : GroupKind → EntityId → List EntityId
plane_of Space w = []
plane_of Plane w = []
plane_of Extrude w = w ∷ []
plane_of Translate w = w ∷ []
plane_of Linked w = []

abbrev pub group_reads : {s : ℕ} → Group s → List EntityId
group_reads g = plane_of g.kind g.entity_b ++ (if g.by_lines then g.entity_b ∷ g.entity_c ∷ [] else [])

-- Nothing outside the list needs something of a group of it: no group, no constraint and no entity. Nobody is in the list.
pub record ReadsOutside {s : ℕ} (dirty : List GroupId) (r : Reads) (m : Typed s) (p : Outline s) : Type 0 where
  pub some : is_listed dirty nobody ≡ false
  pub groups : All (λ (g : Group s). is_listed dirty g.id ≡ false → All (IsRead r) (group_reads g)) m.groups
  pub constraints : All (λ (c : Constraint s). is_listed dirty c.group ≡ false → NeededRead r c) m.constraints
  pub entities : All (λ (e : Entity s). is_listed dirty e.group ≡ false → NamesRead r e) p.entities

-- ---- laws

-- a typed model with extended lists, and its outline
pub record IsWhole {s : ℕ} (m : Typed s) (o : Outline s) : Type 0 where
  pub checked : AreChecked m
  pub outline : IsOutlineOf m o

-- Each group outside the list has the same result over numbers that agree outside it.
abbrev pub AlikeLaw : Type 0
AlikeLaw = (s : ℕ) (dirty : List GroupId) (l : Typed s) (o : Outline s) (m : Typed s) (p : Outline s)
    → IsWhole l o → IsWhole m p → SameButFor dirty l o m p → ReadsOutside dirty (kept dirty l.requests m.requests) m p
    → SameOutside (owners l.requests m.requests) (model_works l o) (model_works m p) l.params m.params dirty

-- the members of the list are groups of the order, and whatever depends on a member is one
pub record IsDirtyList {s : ℕ} (m : Typed s) (o : Outline s) (dirty : List GroupId) : Type 0 where
  pub among : (g : GroupId) → is_listed dirty g ≡ true → is_listed o.order g ≡ true
  pub closed : IsClosed (depends m o.entities) o.order dirty

-- What groups, constraints and entities outside such a list need is outside it.
abbrev pub ClosedLaw : Type 0
ClosedLaw = (s : ℕ) (parts : List (Part s)) → All IsReadPart parts → (bs : List Block) (m : Typed s) (p : Outlined s) → typed s bs ≡ Ok m → outlined parts m ≡ Ok p
    → (l : Typed s) (dirty : List GroupId) → AreChecked l → IsDirtyList m p.outline dirty → ReadsOutside dirty (kept dirty l.requests m.requests) m p.outline

-- The text before the edit is its own regeneration. Then regeneration of the list alone, over its report, is full regeneration of
-- the edited text.
abbrev pub AlikeEditedLaw : Type 0
AlikeEditedLaw = (s : ℕ) (parts : List (Part s)) → All IsReadPart parts → (bs : List Block) (l : Typed s) (o : Outlined s) (report : List (Listed s)) (cs : List Block) (m : Typed s) (p : Outlined s) (dirty : List GroupId)
    → IsFixed (below parts) bs l o report → typed s cs ≡ Ok m → outlined parts m ≡ Ok p → order_of p ≡ order_of o
    → SameButFor dirty l o.outline (relisted p.lists m) p.outline → IsDirtyList (relisted p.lists m) p.outline dirty
    → regenerated_over (works_of (below parts) m p) m.params dirty report (order_of p) ≡ outcome (below parts) m p

pub record LikenessLaw : Type 0 where
  pub alike : AlikeLaw
  pub closed : ClosedLaw
  pub edited : AlikeEditedLaw
