-- The items made ready for a new record.
use Rattle.std.specs.Prelude.{◌≡◌, ℕ, suc, List, [], ◌∷◌, ◌++◌, length, take, drop, true, Vec}
use Rattle.sk_text.specs.Lines.{TextLine}
use Rattle.sk_records.specs.declared.kinds.Kind.{Kind}
use Rattle.sk_records.specs.declared.items.Record as held_record
use Rattle.sk_records.specs.declared.items.Item.{Item}
use Rattle.sk_records.specs.declared.items.Item.TheVariants.{Gone, Lines, Held}
use Rattle.sk_records.specs.declared.rows.Span.{Span}
use Rattle.sk_records.specs.declared.spots.Before.{Before}
use Rattle.sk_records.specs.declared.spots.Before.TheVariants.{Header, Record, Tail}
use Rattle.sk_records.specs.Blocks as blocks
use Rattle.sk_records.specs.Holding.Held.{item_blocks, blocks_at, IsWithin, ItemWithin}
use Rattle.sk_records.specs.Holding.Inserted.{HasRoom}
use Rattle.sk_records.specs.Kinds.{same_kind}
use Rattle.sk_records.specs.Given.{given_records}
use Rattle.sk_records.specs.Holding.BookHeld.{book_blocks, IsHeld}
use Rattle.sk_records.specs.declared.items.Stretch.{Stretch}

-- What stands before a place: the header alone; a record without a tail, and nothing between; or a tail.
abbrev pub IsBefore : List ℕ → List Item → ℕ → Before → Type 0
IsBefore text items at Header = blocks_at text (take at items) ≡ []
IsBefore text items at (Record p) = (r : held_record.Record) × ((mid : List Item) × ((items ≡ take p items ++ Held r ∷ (mid ++ drop at items)) × (blocks_at text mid ≡ [])))
IsBefore text items at Tail = (front : List blocks.Block) × ((l : TextLine) × ((blocks_at text (take at items) ≡ front ++ blocks.Loose l ∷ []) × (blocks.ended_line l ≡ l)))

-- a new record of the kind goes to the place
pub record IsReady (text : List ℕ) (k : Kind) (items : List Item) (at : ℕ) (before : Before) : Type 0 where
  pub room : HasRoom items at
  pub place : (h : TextLine) → suc (length (blocks_at text (take at items))) ≡ blocks.new_place k (blocks.Loose h ∷ blocks_at text items)
  pub stands : IsBefore text items at before

-- ---- the line that closes an item

abbrev pub close_span : Item → Span
close_span Gone = record { start = 0; body_end = 0; end = 0 }
close_span (Lines s) = record { start = 0; body_end = 0; end = 0 }
close_span (Held r) = r.close

abbrev pub with_close : Span → Item → Item
with_close s Gone = Gone
with_close s (Lines l) = Lines l
with_close s (Held r) = Held (record { kind = r.kind; rows = r.rows; close = s })

-- ---- a new record

-- a whole record of the kind, and its tail
pub record IsNew (text : List ℕ) (k : Kind) (x : Item) (t : Stretch) : Type 0 where
  pub given : blocks.Rec
  pub is : item_blocks text x ≡ blocks.Record given ∷ []
  pub kind : same_kind given.kind k ≡ true
  pub within : ItemWithin text x
  pub tail : item_blocks text (Lines t) ≡ blocks.Loose blocks.feed_line ∷ []
  pub tail_within : ItemWithin text (Lines t)

-- the record was put where its kind goes
pub record IsPut {A : Type 0} (old new : List ℕ) (k : Kind) (x : Item) (was now : Span) (before after : List Item) (places : List (Vec ℕ A)) : Type 0 where
  pub book : (given : blocks.Rec) → item_blocks old x ≡ blocks.Record given ∷ [] → book_blocks new now after ≡ blocks.add_records k (given ∷ []) (book_blocks old was before)
  pub first : IsWithin new now
  pub held : IsHeld new after places

-- all is as it was
pub record IsKept {A : Type 0} (old new : List ℕ) (was now : Span) (before after : List Item) (places : List (Vec ℕ A)) : Type 0 where
  pub book : book_blocks new now after ≡ book_blocks old was before
  pub first : IsWithin new now
  pub held : IsHeld new after places

-- the given record was put where its kind goes
pub record IsAdded {A : Type 0} (old new : List ℕ) (k : Kind) (lines : List ℕ) (was now : Span) (before after : List Item) (places : List (Vec ℕ A)) : Type 0 where
  pub book : book_blocks new now after ≡ blocks.add_records k (given_records lines) (book_blocks old was before)
  pub first : IsWithin new now
  pub held : IsHeld new after places

-- records were put where their kind goes
pub record AreAdded {A : Type 0} (old new : List ℕ) (k : Kind) (rs : List blocks.Rec) (was now : Span) (before after : List Item) (places : List (Vec ℕ A)) : Type 0 where
  pub book : book_blocks new now after ≡ blocks.add_records k rs (book_blocks old was before)
  pub first : IsWithin new now
  pub held : IsHeld new after places
