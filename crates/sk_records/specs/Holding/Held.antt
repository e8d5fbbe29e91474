-- Blocks as they are held: places in one text.
use Rattle.std.specs.Prelude.{◌≡◌, ℕ, ◌+◌, ◌-◌, ◌≤◌, ◌<◌, Option, Some, None, if◌then◌else◌, nat_eq, List, [], ◌∷◌, ◌++◌, map, length, take, drop, slice_index}
use Rattle.std.specs.List.{All, flat_map}
use Rattle.sk_text.specs.Lines.{TextLine, lines_in}
use Rattle.sk_records.specs.declared.rows.Span.{Span}
use Rattle.sk_records.specs.declared.rows.Row as held
use Rattle.sk_records.specs.declared.items.Stretch.{Stretch}
use Rattle.sk_records.specs.declared.items.Record as held_record
use Rattle.sk_records.specs.declared.items.Item.{Item}
use Rattle.sk_records.specs.declared.items.Item.TheVariants.{Gone, Lines, Held}
use Rattle.sk_records.specs.Rows.{Row, Role}
use Rattle.sk_records.specs.Blocks.{Block, Rec, Loose, Record}
use Rattle.sk_records.specs.Holding.Marks.{mark_of, mark_number, mark_role, mark_end}

-- the bytes of a text between two places
abbrev pub bytes_at : List ℕ → ℕ → ℕ → List ℕ
bytes_at text start end = take (end - start) (drop start text)

abbrev pub line_at : List ℕ → Span → TextLine
line_at text s = record { body = bytes_at text s.start s.body_end; ending = bytes_at text s.body_end s.end }

-- a number as it is held: 0 stands for none
abbrev pub number_held : ℕ → Option ℕ
number_held n = if nat_eq n 0 then None else Some n

-- where a line of a record stands
abbrev pub row_span : held.Row → Span
row_span r = record { start = r.start; body_end = r.body_end; end = r.body_end + mark_end r.mark }

-- a line of a record at some places
abbrev pub row_of : Span → Role → ℕ → held.Row
row_of s role n = record { start = s.start; body_end = s.body_end; mark = mark_of n role (s.end - s.body_end) }

abbrev pub row_at : List ℕ → held.Row → Row
row_at text r = record { number = number_held (mark_number r.mark); role = mark_role r.mark; body = bytes_at text r.start r.body_end; ending = bytes_at text r.body_end (r.body_end + mark_end r.mark) }

abbrev pub rows_at : List ℕ → List held.Row → List Row
rows_at text rows = map (row_at text) rows

abbrev pub rec_at : List ℕ → held_record.Record → Rec
rec_at text r = record { kind = r.kind; rows = rows_at text r.rows.items; close = line_at text r.close }

-- the blocks at a place: none where nothing stands
abbrev pub item_blocks : List ℕ → Item → List Block
item_blocks text Gone = []
item_blocks text (Lines s) = map Loose (lines_in (bytes_at text s.start s.end))
item_blocks text (Held r) = Record (rec_at text r) ∷ []

abbrev pub blocks_at : List ℕ → List Item → List Block
blocks_at text items = flat_map (item_blocks text) items

-- the line lies in the text; its end has at most two bytes
pub record IsWithin (text : List ℕ) (s : Span) : Type 0 where
  pub body : s.start ≤ s.body_end
  pub ending : s.body_end ≤ s.end
  pub short : s.end ≤ s.body_end + 2
  pub within : s.end ≤ length text

abbrev pub RowWithin : List ℕ → held.Row → Type 0
RowWithin text r = IsWithin text (row_span r)

pub record StretchWithin (text : List ℕ) (s : Stretch) : Type 0 where
  pub some : s.start < s.end
  pub within : s.end ≤ length text

pub record RecordWithin (text : List ℕ) (r : held_record.Record) : Type 0 where
  pub rows : All (RowWithin text) r.rows.items
  pub close : IsWithin text r.close

abbrev pub ItemWithin : List ℕ → Item → Type 0
ItemWithin text Gone = Unit {0}
ItemWithin text (Lines s) = StretchWithin text s
ItemWithin text (Held r) = RecordWithin text r

-- the last item is a stretch from `start` up to `at`, whose last line has an end
pub record IsJoined (text : List ℕ) (items : List Item) (at start : ℕ) : Type 0 where
  pub front : List Item
  pub last : items ≡ front ++ Lines (record { start = start; end = at }) ∷ []
  pub some : start < at
  pub within : at ≤ length text
  pub feed : slice_index text (at - 1) ≡ 10
