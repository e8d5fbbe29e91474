-- What calls of this crate ask of a model, which typing leaves, and what they know of the groups that are made.
use Rattle.std.specs.Prelude.{◌≡◌, ◌==◌, ◌≤◌, ◌<◌, ◌^◌, ℕ, ◌⊎◌, pos, nat_eq, List, [], map, Some}
use Rattle.std.specs.List.{All, IsDistinct, find, Contains}
use Rattle.sk_types.specs.declared.constraint.Constraint.{Constraint}
use Rattle.sk_types.specs.declared.entity.Entity.{Entity}
use Rattle.sk_types.specs.declared.handle.GroupId.{GroupId}
use Rattle.sk_types.specs.declared.group.Group.{Group}
use Rattle.sk_types.specs.declared.request.Request.{Request}
use Rattle.sk_types.specs.declared.standing.Standing.TheVariants.{Accepted}
use Rattle.sk_types.specs.Handles.{maker_of}
use Rattle.sk_types.specs.Lookups.{Rise}
use Rattle.sk_types.specs.Params.{own_params}
use Rattle.sk_types.specs.Standings.{constraint_standing}
use Rattle.sk_entity.specs.Requests.{request_entities}
use Rattle.sk_link.specs.declared.parts.Part.{Part}
use Rattle.sk_model.specs.Checked.{IsHandle}
use Rattle.sk_model.specs.Settable.{IsRemapList}
use Rattle.sk_model.specs.Typed.{group_handle}
use Rattle.sk_chain.specs.declared.made.Made.{Made}
use Rattle.sk_chain.specs.Lookups.{group_at}
use Rattle.sk_chain.specs.Made.{group_by}

-- no handle stands twice
abbrev pub AreGroups : {s : ℕ} → List (Group s) → Type 0
AreGroups gs = IsDistinct nat_eq (map group_handle gs)

abbrev pub IsAccepted : {s : ℕ} → Constraint s → Type 0
IsAccepted c = constraint_standing (pos c.kind) ≡ Accepted

abbrev pub AreConstraints : {s : ℕ} → List (Constraint s) → Type 0
AreConstraints cs = All IsAccepted cs

abbrev pub place_handle : GroupId → ℕ
place_handle g = g.0

-- what reading leaves of a linked part: its entities rise, and their handles have at most eight hexadecimal digits
pub record IsReadPart {s : ℕ} (p : Part s) : Type 0 where
  pub rise : Rise p.entities
  pub handles : All (λ e. IsHandle e.id.0) p.entities

-- ---- the groups that are made

abbrev pub AllRise : {s : ℕ} → List (Made s) → Type 0
AllRise made = All (λ m. Rise m.entities) made

-- a request that is in the model draws the entity
pub record IsDrawn {s : ℕ} (rs : List Request) (e : Entity s) : Type 0 where
  pub request : Request
  pub there : find (λ (q : Request). request.id.0 == q.id.0) rs ≡ Some request
  pub draws : Contains (request_entities s request) e

-- an entity whose handle leads back to its group; what has parameters of its own is drawn
pub record IsHome {s : ℕ} (rs : List Request) (all : List (Group s)) (g : GroupId) (e : Entity s) : Type 0 where
  pub least : 65536 ≤ e.id.0
  pub most : e.id.0 < 2 ^ 32
  pub kind : e.kind ≤ 65535
  pub group : e.group ≡ g
  pub home : group_by rs all (maker_of e.id.0) ≡ Some g
  pub own : (own_params e ≡ []) ⊎ IsDrawn rs e

-- what is made of a group: its list may be set, and its entities rise
pub record IsOwn {s : ℕ} (rs : List Request) (all : List (Group s)) (m : Made s) : Type 0 where
  pub group : (g : Group s) × (group_at m.group.0 all ≡ Some g)
  pub list : IsRemapList m.group.0 m.list
  pub rise : Rise m.entities
  pub homes : All (IsHome rs all m.group) m.entities

abbrev pub AllOwn : {s : ℕ} → List Request → List (Group s) → List (Made s) → Type 0
AllOwn rs all made = All (IsOwn rs all) made
