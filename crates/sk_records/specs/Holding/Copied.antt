-- Items whose lines were put into another text.
use Rattle.std.specs.Prelude.{◌≡◌, ℕ, List}
use Rattle.std.specs.List.{All}
use Rattle.sk_records.specs.declared.items.Item.{Item}
use Rattle.sk_records.specs.Holding.Held.{item_blocks, blocks_at, ItemWithin}

-- an item that holds the same blocks in another text
pub record IsMoved (old new : List ℕ) (x y : Item) : Type 0 where
  pub blocks : item_blocks new y ≡ item_blocks old x
  pub within : ItemWithin new y

-- items that hold the same blocks in another text
pub record AreMoved (old new : List ℕ) (items out : List Item) : Type 0 where
  pub blocks : blocks_at new out ≡ blocks_at old items
  pub within : All (ItemWithin new) out
