-- Changes of records of one kind, one after the other.
use Rattle.std.specs.Prelude.{ℕ, List, [], ◌∷◌}
use Rattle.sk_records.specs.declared.kinds.Kind.{Kind}
use Rattle.sk_records.specs.Rows.{Row, with_value, with_map}
use Rattle.sk_records.specs.Blocks.{Block, on_record}

-- In the record with a place in its kind, a value is set under a key, or a remap list.
pub data Change : Type 0 where
  SetValue : ℕ → List ℕ → List ℕ → Change
  SetMap : ℕ → List Row → Change

abbrev pub change_place : Change → ℕ
change_place (SetValue i key value) = i
change_place (SetMap i new) = i

abbrev pub change_rows : Change → List Row → List Row
change_rows (SetValue i key value) rows = with_value key value rows
change_rows (SetMap i new) rows = with_map new rows

-- a kind, and changes of its records
pub record KindChanges : Type 0 where
  pub kind : Kind
  pub list : List Change

-- the changes, one after the other
abbrev pub all_changed : Kind → List Change → List Block → List Block
all_changed k [] bs = bs
all_changed k (c ∷ cs) bs = all_changed k cs (on_record k (change_place c) (change_rows c) bs)
