-- One item is changed in a text that may have grown.
use Rattle.std.specs.Prelude.{◌≡◌, ℕ, List, [], ◌∷◌, ◌++◌, Bool, true, false, if◌then◌else◌, map, slice_set, slice_index_or}
use Rattle.std.specs.List.{filter}
use Rattle.sk_records.specs.declared.kinds.Kind.{Kind}
use Rattle.sk_records.specs.declared.items.Item.{Item}
use Rattle.sk_records.specs.declared.rows.Row as held
use Rattle.sk_records.specs.Rows.{Row, is_plain_role}
use Rattle.sk_records.specs.Blocks.{with_rows}
use Rattle.sk_records.specs.Holding.Marks.{mark_role}
use Rattle.sk_records.specs.Holding.Held.{item_blocks, ItemWithin}
use Rattle.sk_records.specs.Holding.Places.{holds}
use Rattle.sk_records.specs.Holding.Grown.{IsGrown}

-- the item at a place is another one, whose lines are a function of what they were
pub record ItemChange (old new : List ℕ) (before after : List Item) (at : ℕ) (f : List Row → List Row) : Type 0 where
  pub was : Item
  pub now : Item
  pub stood : was ≡ slice_index_or before at was
  pub items : after ≡ slice_set before at now
  pub blocks : item_blocks new now ≡ map (with_rows f) (item_blocks old was)
  pub within : ItemWithin new now
  pub kind : (k : Kind) → holds k now ≡ holds k was
  pub grown : IsGrown old new

abbrev pub is_plain_row : held.Row → Bool
is_plain_row r = is_plain_role (mark_role r.mark)

-- the held lines with a new remap list in the place of the first, and no further one
abbrev pub with_list : List held.Row → List held.Row → List held.Row
with_list new [] = new
with_list new (r ∷ rs) = if is_plain_row r then r ∷ with_list new rs else new ++ filter is_plain_row rs

-- what is still to come of them, once the new list stands or before
abbrev pub list_rest : Bool → List held.Row → List held.Row → List held.Row
list_rest true new rows = filter is_plain_row rows
list_rest false new rows = with_list new rows
