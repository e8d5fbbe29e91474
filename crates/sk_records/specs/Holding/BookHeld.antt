-- A book as it is held.
use Rattle.std.specs.Prelude.{◌≡◌, ℕ, List, [], ◌∷◌, Vec, Result, Ok, Err}
use Rattle.std.specs.List.{All}
use Rattle.sk_records.specs.declared.rows.Span.{Span}
use Rattle.sk_records.specs.declared.rows.Row as held
use Rattle.sk_records.specs.declared.items.Item.{Item}
use Rattle.sk_records.specs.declared.items.Item.TheVariants.{Gone, Lines, Held}
use Rattle.sk_records.specs.Blocks.{Block, Loose}
use Rattle.sk_records.specs.Written.{IsText}
use Rattle.sk_records.specs.Holding.Held.{line_at, blocks_at, IsWithin, ItemWithin}
use Rattle.sk_records.specs.declared.book.Parts.{Parts}
use Rattle.sk_records.specs.declared.faults.ReadFault.{ReadFault}
use Rattle.sk_records.specs.declared.faults.ReadFault.TheVariants.{NoMemory}
use Rattle.sk_records.specs.Answers.{IsFault}
use Rattle.sk_records.specs.Holding.Places.{all_places, lists_of}

-- the header, then the blocks of the items
abbrev pub book_blocks : List ℕ → Span → List Item → List Block
book_blocks text header items = Loose (line_at text header) ∷ blocks_at text items

abbrev pub item_rows : Item → List held.Row
item_rows Gone = []
item_rows (Lines s) = []
item_rows (Held r) = r.rows.items

-- all places lie in the text, and the records of each kind stand where the lists say
pub record IsHeld {A : Type 0} (text : List ℕ) (items : List Item) (places : List (Vec ℕ A)) : Type 0 where
  pub within : All (ItemWithin text) items
  pub index : lists_of places ≡ all_places items

-- the blocks are those of a text
pub record IsBook {A : Type 0} (text : List ℕ) (header : Span) (items : List Item) (places : List (Vec ℕ A)) : Type 0 where
  pub first : IsWithin text header
  pub held : IsHeld text items places
  pub is_text : IsText (book_blocks text header items)

-- the parts are those of the text, or the fault is the first
abbrev pub IsParted : List ℕ → Result Parts ReadFault → Result (List Block) ReadFault → Type 0
IsParted text (Ok p) r = r ≡ Ok (book_blocks text p.header p.items.items)
IsParted text (Err e) r = IsFault NoMemory e r

pub record AreWithin (text : List ℕ) (p : Parts) : Type 0 where
  pub first : IsWithin text p.header
  pub all : All (ItemWithin text) p.items.items
