-- What contracts see of a model.
use Rattle.std.specs.Prelude.{◌≡◌, ℕ, List, map, Result, Ok, Err}
use Rattle.sk_records.specs.Blocks.{Block}
use Rattle.sk_model.specs.declared.faults.ModelFault.{ModelFault}
use Rattle.sk_types.specs.Lookups.{value_handle}
use Rattle.sk_model.specs.Typed.{Typed, typed, group_handle}

-- the blocks of its book, and what they have as a typed model
pub record Modelled (s : ℕ) : Type 0 where
  pub blocks : List Block
  pub lists : Typed s

-- the lists are what the definitions give for the blocks
abbrev pub IsTyped : {s : ℕ} → Modelled s → Type 0
IsTyped {s} m = typed s m.blocks ≡ Ok m.lists

-- the handles that are kept for look-ups are those of the lists
pub record HasHandles {s : ℕ} (m : Modelled s) (groups params : List ℕ) : Type 0 where
  pub of_groups : groups ≡ map group_handle m.lists.groups
  pub of_params : params ≡ map value_handle m.lists.params

-- the typed lists that a call answers
abbrev pub lists_of : {s : ℕ} → Result (Modelled s) ModelFault → Result (Typed s) ModelFault
lists_of (Ok m) = Ok m.lists
lists_of (Err e) = Err e
