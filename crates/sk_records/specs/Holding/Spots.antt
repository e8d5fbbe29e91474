-- Where a new record goes behind another.
use Rattle.std.specs.Prelude.{◌≡◌, ℕ, ◌+◌, suc, List, [], ◌∷◌, ◌++◌, Bool, true, false, if◌then◌else◌, nat_eq, length, take, drop}
use Rattle.std.specs.List.{All}
use Rattle.sk_text.specs.Lines.{TextLine}
use Rattle.sk_records.specs.declared.items.Stretch.{Stretch}
use Rattle.sk_records.specs.declared.items.Record as held_record
use Rattle.sk_records.specs.declared.items.Item.{Item}
use Rattle.sk_records.specs.declared.items.Item.TheVariants.{Gone, Lines, Held}
use Rattle.sk_records.specs.declared.spots.Front.{Front}
use Rattle.sk_records.specs.declared.spots.Front.TheVariants.{Other, Blank, BlankAndMore}
use Rattle.sk_records.specs.Blocks.{Block, Loose, tail_len, ended_line}
use Rattle.sk_records.specs.Holding.Held.{bytes_at, blocks_at, ItemWithin}
use Rattle.sk_records.specs.Holding.Removed.{is_gone, blank_len}

-- how many places there are before anything stands
abbrev pub gone_len : List Item → ℕ
gone_len [] = 0
gone_len (x ∷ xs) = if is_gone x then suc (gone_len xs) else 0

abbrev pub front_stretch : Stretch → ℕ → Front
front_stretch s n = if nat_eq n 0 then Other else if nat_eq (s.start + n) s.end then Blank else BlankAndMore (record { start = s.start; end = s.start + n })

-- what an item begins with
abbrev pub front_of : List ℕ → Item → Front
front_of text Gone = Other
front_of text (Lines s) = front_stretch s (blank_len (bytes_at text s.start s.end))
front_of text (Held r) = Other

-- a tail has an end
abbrev pub IsTail : Bool → List Block → Type 0
IsTail false bs = bs ≡ []
IsTail true bs = (l : TextLine) × ((bs ≡ Loose l ∷ []) × (ended_line l ≡ l))

-- The record, its tail, and what stands behind: the place is that behind the tail.
pub record IsSpot (text : List ℕ) (front : List Item) (held : held_record.Record) (back new : List Item) (at : ℕ) (tail : Bool) : Type 0 where
  pub mid : List Item
  pub rest : List Item
  pub whole : new ≡ front ++ Held held ∷ (mid ++ rest)
  pub place : at ≡ length front + 1 + length mid
  pub tail_blocks : blocks_at text mid ≡ take (tail_len (blocks_at text back)) (blocks_at text back)
  pub rest_blocks : blocks_at text rest ≡ drop (tail_len (blocks_at text back)) (blocks_at text back)
  pub is_tail : IsTail tail (blocks_at text mid)
  pub within : All (ItemWithin text) (mid ++ rest)
