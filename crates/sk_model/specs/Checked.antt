-- What typing leaves: handles in range, each once, and values that passed.
use Rattle.std.specs.Prelude.{◌≡◌, ◌≤◌, ◌<◌, ◌^◌, ℕ, pos, nat_eq, List, map, length}
use Rattle.std.specs.List.{All, IsDistinct}
use Rattle.sk_num.specs.Limit.{IsInLimit}
use Rattle.sk_types.specs.declared.standing.Standing.TheVariants.{Accepted}
use Rattle.sk_types.specs.Standings.{request_standing, constraint_standing, IsInTurn}
use Rattle.sk_types.specs.declared.group.Group.{Group}
use Rattle.sk_types.specs.declared.group.RemapEntry.{RemapEntry}
use Rattle.sk_types.specs.declared.handle.EntityId.{EntityId}
use Rattle.sk_types.specs.declared.request.Request.{Request}
use Rattle.sk_types.specs.declared.constraint.Constraint.{Constraint}
use Rattle.sk_types.specs.Lookups.{value_handle}
use Rattle.sk_types.specs.Copies.{copies_in, same_copy}
use Rattle.sk_model.specs.Remap.{numbers_in}
use Rattle.sk_model.specs.Requests.{most_extra}
use Rattle.sk_model.specs.Settable.{IsSettable, IsRemapList, HasSources}
use Rattle.sk_model.specs.Typed.{Typed, group_handle, request_handle, constraint_handle}

-- at most eight hexadecimal digits
abbrev pub IsHandle : ℕ → Type 0
IsHandle h = h < 2 ^ 32

pub record IsCheckedEntry (e : RemapEntry) : Type 0 where
  pub least : 1 ≤ e.number
  pub most : e.number ≤ 65535
  pub copy : e.copy ≤ 65535

-- no number and no copy of an entity stands twice
pub record IsCheckedList (es : List RemapEntry) : Type 0 where
  pub entries : All IsCheckedEntry es
  pub numbers_differ : IsDistinct nat_eq (numbers_in es)
  pub copies_differ : IsDistinct same_copy (copies_in es)

pub record IsCheckedGroup {s : ℕ} (g : Group s) : Type 0 where
  pub least : 1 ≤ g.id.0
  pub most : g.id.0 ≤ 32767
  pub copies : g.copies ≤ 999
  pub list : IsRemapList g.id.0 g.remap
  pub entries : IsCheckedList g.remap
  pub sources : HasSources g.remap
  pub active : IsHandle g.active.0
  pub source : IsHandle g.source.0
  pub origin : IsHandle g.origin.0
  pub entity_b : IsHandle g.entity_b.0
  pub entity_c : IsHandle g.entity_c.0

pub record IsCheckedRequest (r : Request) : Type 0 where
  pub least : 1 ≤ r.id.0
  pub most : r.id.0 ≤ 32767
  pub accepted : request_standing (pos r.kind) ≡ Accepted
  pub group : IsHandle r.group.0
  pub workplane : IsHandle r.workplane.0
  pub extra : r.extra ≤ most_extra

pub record IsCheckedConstraint {s : ℕ} (c : Constraint s) : Type 0 where
  pub least : 1 ≤ c.id.0
  pub most : c.id.0 ≤ 65535
  pub accepted : constraint_standing (pos c.kind) ≡ Accepted
  pub value : IsInLimit c.value
  pub in_turn : IsInTurn c
  pub group : IsHandle c.group.0
  pub workplane : IsHandle c.workplane.0
  pub points : All (λ (e : EntityId). IsHandle e.0) c.points
  pub entities : All (λ (e : EntityId). IsHandle e.0) c.entities

pub record AreChecked {s : ℕ} (l : Typed s) : Type 0 where
  pub few : length l.groups ≤ 1000
  pub groups : All IsCheckedGroup l.groups
  pub groups_differ : IsDistinct nat_eq (map group_handle l.groups)
  pub params : All IsSettable l.params
  pub params_differ : IsDistinct nat_eq (map value_handle l.params)
  pub requests : All IsCheckedRequest l.requests
  pub requests_differ : IsDistinct nat_eq (map request_handle l.requests)
  pub constraints : All IsCheckedConstraint l.constraints
  pub constraints_differ : IsDistinct nat_eq (map constraint_handle l.constraints)
