-- What trees are made from, and the numbers in it: parameters of the group, and the numbers at which entities stand.
use Rattle.std.specs.Prelude.{ℕ, ◌+◌, ◌<◌, ℤ, pos, List, [], ◌∷◌, length, get_or, unwrap_or, Option, Some, None}
use Rattle.sk_types.specs.declared.handle.EntityId.{EntityId}
use Rattle.sk_types.specs.declared.handle.GroupId.{GroupId}
use Rattle.sk_types.specs.declared.handle.ParamId.{ParamId}
use Rattle.sk_types.specs.declared.entity.Entity.{Entity}
use Rattle.sk_types.specs.declared.entity.ParamValue.{ParamValue}
use Rattle.sk_types.specs.declared.entity.Act.{Act}
use Rattle.sk_types.specs.Handles.{item_of_group}
use Rattle.sk_types.specs.Lookups.{act_at, value_of, place_of, act_handle, value_handle, param_handle, Rise, RiseBy}
use Rattle.sk_expr.specs.Poly.{Poly, number, unknown}

-- all entities, the numbers so far, and the group with what is unknown in it
pub record Source (s : ℕ) : Type 0 where
  pub entities : List (Entity s)
  pub params : List (ParamValue s)
  pub acts : List (Act s)
  pub unknowns : List ParamId
  pub group : GroupId

-- each list by rising handle, and a place for each unknown
pub record IsSource {s : ℕ} (o : Source s) : Type 0 where
  pub entities : Rise o.entities
  pub params : RiseBy (value_handle {s = s}) o.params
  pub acts : RiseBy (act_handle {s = s}) o.acts
  pub unknowns : RiseBy param_handle o.unknowns
  pub few : length o.unknowns < 65536

-- ---- parameters

abbrev pub unknown_or_number : Option ℕ → ℤ → Poly ℤ
unknown_or_number (Some i) z = unknown i
unknown_or_number None z = number z

-- a parameter: the unknown in its place, or else the number of its value, 0 where it has none
unfoldable pub param_tree : {s : ℕ} → Source s → ℕ → Poly ℤ
param_tree o h = unknown_or_number (place_of h o.unknowns) (unwrap_or (value_of h o.params) (pos 0))

unfoldable pub three_params : {s : ℕ} → Source s → ℕ → List (Poly ℤ)
three_params o h = param_tree o h ∷ param_tree o (h + 1) ∷ param_tree o (h + 2) ∷ []

unfoldable pub four_params : {s : ℕ} → Source s → ℕ → List (Poly ℤ)
four_params o h = param_tree o h ∷ param_tree o (h + 1) ∷ param_tree o (h + 2) ∷ param_tree o (h + 3) ∷ []

-- a group's own: its vector from parameter 0 on, its quaternion from parameter 3 on
unfoldable pub group_vector : {s : ℕ} → Source s → List (Poly ℤ)
group_vector o = three_params o (item_of_group o.group.0 0)

unfoldable pub group_quaternion : {s : ℕ} → Source s → List (Poly ℤ)
group_quaternion o = four_params o (item_of_group o.group.0 3)

-- ---- numbers

abbrev pub number_at : List ℤ → ℕ → Poly ℤ
number_at zs i = number (get_or zs i (pos 0))

abbrev pub three_numbers : List ℤ → List (Poly ℤ)
three_numbers zs = number_at zs 0 ∷ number_at zs 1 ∷ number_at zs 2 ∷ []

abbrev pub four_numbers : List ℤ → List (Poly ℤ)
four_numbers zs = number_at zs 0 ∷ number_at zs 1 ∷ number_at zs 2 ∷ number_at zs 3 ∷ []

abbrev pub values_or_zeros : {s : ℕ} → Option (Act s) → List ℤ
values_or_zeros None = pos 0 ∷ pos 0 ∷ pos 0 ∷ pos 0 ∷ []
values_or_zeros (Some a) = a.values

-- the numbers at which an entity stands, 0 where it has none
unfoldable pub act_numbers : {s : ℕ} → Source s → EntityId → List ℤ
act_numbers o e = values_or_zeros (act_at e.0 o.acts)
