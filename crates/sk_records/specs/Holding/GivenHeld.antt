-- Given records as they are held.
use Rattle.std.specs.Prelude.{◌≡◌, ℕ, List, [], ◌∷◌, Ok, true}
use Rattle.std.specs.List.{All}
use Rattle.sk_records.specs.declared.rows.Row as held
use Rattle.sk_records.specs.declared.items.Item.{Item}
use Rattle.sk_records.specs.Blocks.{Block, Rec, Record}
use Rattle.sk_records.specs.declared.kinds.Kind.{Kind}
use Rattle.sk_records.specs.Kinds.{same_kind}
use Rattle.sk_records.specs.Written.{bare}
use Rattle.sk_records.specs.Given.{read_given, given_records}
use Rattle.sk_records.specs.Holding.Marks.{bare_mark}
use Rattle.sk_records.specs.Holding.Held.{item_blocks, blocks_at, ItemWithin}

-- a held line without its number
abbrev pub bare_held : held.Row → held.Row
bare_held r = record { start = r.start; body_end = r.body_end; mark = bare_mark r.mark }

-- the same item without numbers
pub record IsBareOf (old new : Item) : Type 0 where
  pub blocks : (text : List ℕ) → item_blocks text new ≡ bare (item_blocks text old)
  pub within : (text : List ℕ) → ItemWithin text old → ItemWithin text new

pub record AreBareOf (old new : List Item) : Type 0 where
  pub blocks : (text : List ℕ) → blocks_at text new ≡ bare (blocks_at text old)
  pub within : (text : List ℕ) → All (ItemWithin text) old → All (ItemWithin text) new

-- the items are the given lines' blocks without numbers
pub record IsGivenAs (text lines : List ℕ) (items : List Item) : Type 0 where
  pub blocks : List Block
  pub read : read_given lines ≡ Ok blocks
  pub same : blocks_at text items ≡ bare blocks

-- the item is the given record
pub record IsRecordOf (text : List ℕ) (k : Kind) (lines : List ℕ) (x : Item) : Type 0 where
  pub given : Rec
  pub is : item_blocks text x ≡ Record given ∷ []
  pub same : given_records lines ≡ given ∷ []
  pub kind : same_kind given.kind k ≡ true
  pub within : ItemWithin text x
