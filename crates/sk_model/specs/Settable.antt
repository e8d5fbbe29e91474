-- What may be set.
use Rattle.std.specs.Prelude.{◌≡◌, ◌≢◌, ◌<◌, ◌^◌, ℕ, ℤ, List, map, length, true, Option, Some, None, Ok}
use Rattle.std.specs.List.{All}
use Rattle.sk_num.specs.Limit.{IsInLimit}
use Rattle.sk_num.specs.Spelling.{quantity_of, quantity_text}
use Rattle.sk_types.specs.declared.entity.ParamValue.{ParamValue}
use Rattle.sk_types.specs.declared.entity.Entity.{Entity}
use Rattle.sk_types.specs.declared.entity.Act.{Act}
use Rattle.sk_types.specs.declared.group.Group.{Group}
use Rattle.sk_types.specs.declared.group.RemapEntry.{RemapEntry}
use Rattle.sk_types.specs.Lookups.{value_of, act_at}
use Rattle.sk_model.specs.declared.remap.GroupList.{GroupList}
use Rattle.sk_model.specs.Chain.{seen_in}
use Rattle.sk_model.specs.Remap.{remap_of}
use Rattle.sk_model.specs.Typed.{group_handle}
use Rattle.sk_model.specs.Changes.{numbers_of}
use Rattle.sk_model.specs.EntityRecords.{Keyed, act_numbers}

-- a parameter: its handle isn't 0 and has at most eight hexadecimal digits, and its value is a grid number
pub record IsSettable {s : ℕ} (p : ParamValue s) : Type 0 where
  pub some : p.id.0 ≢ 0
  pub handle : p.id.0 < 2 ^ 32
  pub value : IsInLimit p.value

-- its value is read back as it is written
abbrev pub ReadsBack : {s : ℕ} → ParamValue s → Type 0
ReadsBack {s} p = quantity_of s (quantity_text s p.value) ≡ Ok p.value

-- it stands among the parameters, with its value
abbrev pub IsStored : {s : ℕ} → List (ParamValue s) → ParamValue s → Type 0
IsStored ps q = value_of q.id.0 ps ≡ Some q.value

-- the remap list of a group with this handle: numbers are 1 to 65535, and no number and no copy stands twice
abbrev pub IsRemapList : ℕ → List RemapEntry → Type 0
IsRemapList id list = remap_of id (map numbers_of list) ≡ Ok list

-- a remap list of a group that stands
pub record IsGroupList {s : ℕ} (gs : List (Group s)) (x : GroupList) : Type 0 where
  pub group : seen_in x.group.0 (map group_handle gs) ≡ true
  pub list : IsRemapList x.group.0 x.entries

-- the handles of the entities that are copied have at most eight hexadecimal digits
abbrev pub HasSources : List RemapEntry → Type 0
HasSources es = All (λ (e : RemapEntry). e.source.0 < 2 ^ 32) es

-- numbers that are grid numbers
abbrev pub AreFit : Keyed → Type 0
AreFit ks = All (λ (k : List ℕ × ℤ). IsInLimit k.1) ks

abbrev pub IsActFit : {s : ℕ} → ℕ → Option (Act s) → Type 0
IsActFit n None = Unit {0}
IsActFit n (Some a) = AreFit (act_numbers n a.values)

-- an entity, and the numbers that its record has
pub record IsWritable {s : ℕ} (acts : List (Act s)) (e : Entity s) : Type 0 where
  pub kind : e.kind < 2 ^ 16
  pub points : length e.points < 2 ^ 64
  pub numbers : IsActFit e.kind (act_at e.id.0 acts)
