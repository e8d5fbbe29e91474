-- What is written: the bytes of blocks, and blocks that are read again as themselves.
use Rattle.std.specs.Prelude.{◌≡◌, ℕ, ◌+◌, List, [], ◌∷◌, Some, None, Bool, true, false, if◌then◌else◌}
use Rattle.std.specs.List.{flat_map}
use Rattle.sk_text.specs.Lines.{TextLine, joined, AreLines}
use Rattle.sk_records.specs.declared.kinds.Kind.{Kind}
use Rattle.sk_records.specs.declared.kinds.Kind.TheVariants.{Group}
use Rattle.sk_records.specs.Kinds.{same_kind}
use Rattle.sk_records.specs.Rows.{Row, Role, Plain, Brace, Entry}
use Rattle.sk_records.specs.Blocks.{Block, Rec, Loose, Record}
use Rattle.sk_records.specs.Classes.{LineClass, Empty, Value, Opens, Closes, Surface, Unknown, class_of, is_header, is_shut, is_entry}
use Rattle.sk_records.specs.Reading.{block_lines}

abbrev pub lines_of : List Block → List TextLine
lines_of bs = flat_map block_lines bs

-- the bytes of blocks
abbrev pub bytes_of : List Block → List ℕ
bytes_of bs = joined (lines_of bs)

-- ---- blocks that are read as themselves

abbrev pub is_inner : Kind → LineClass → Bool
is_inner k Empty = true
is_inner k (Value j) = same_kind j k
is_inner k Opens = false
is_inner k (Closes j) = false
is_inner k Surface = false
is_inner k Unknown = false

abbrev pub opens_list : Kind → LineClass → Bool
opens_list k Empty = false
opens_list k (Value j) = false
opens_list k Opens = same_kind k Group
opens_list k (Closes j) = false
opens_list k Surface = false
opens_list k Unknown = false

-- the line may stand in a record of the kind with this role; the flag says that it stands within a remap list
abbrev pub fits : Kind → Bool → Role → List ℕ → Bool
fits k false Plain body = is_inner k (class_of body)
fits k false Brace body = opens_list k (class_of body)
fits k false Entry body = false
fits k true Plain body = false
fits k true Brace body = is_shut body
fits k true Entry body = if is_shut body then false else is_entry body

-- whether the next line stands within a list
abbrev pub within_then : Bool → Role → Bool
within_then t Plain = t
within_then false Brace = true
within_then true Brace = false
within_then t Entry = t

abbrev pub Fit : Kind → Bool → List Row → Type 0
Fit k false [] = Unit {0}
Fit k true [] = ⊥
Fit k t (r ∷ rs) = (fits k t r.role r.body ≡ true) × Fit k (within_then t r.role) rs

pub record IsFirst (k : Kind) (r : Row) : Type 0 where
  pub role : r.role ≡ Plain
  pub class : class_of r.body ≡ Value k

-- the lines of a record: a value line of its kind, then lines that may follow
abbrev pub Opened : Kind → List Row → Type 0
Opened k [] = ⊥
Opened k (r ∷ rs) = IsFirst k r × Fit k false rs

abbrev pub is_loose : LineClass → Bool
is_loose Empty = true
is_loose (Value j) = false
is_loose Opens = false
is_loose (Closes j) = false
is_loose Surface = true
is_loose Unknown = false

abbrev pub IsBlock : Block → Type 0
IsBlock (Loose l) = is_loose (class_of l.body) ≡ true
IsBlock (Record r) = Opened r.kind r.rows × (class_of r.close.body ≡ Closes r.kind)

abbrev pub AreBlocks : List Block → Type 0
AreBlocks [] = Unit {0}
AreBlocks (b ∷ bs) = IsBlock b × AreBlocks bs

abbrev pub HasHeader : List Block → Type 0
HasHeader [] = ⊥
HasHeader (Loose l ∷ bs) = (is_header l.body ≡ true) × AreBlocks bs
HasHeader (Record r ∷ bs) = ⊥

-- The blocks of a text: the header, then blocks; each line but the last has an end.
pub record IsText (bs : List Block) : Type 0 where
  pub blocks : HasHeader bs
  pub lines : AreLines (lines_of bs)

-- ---- numbers

abbrev pub numbered_row : ℕ → Row → Row
numbered_row n r = record { number = Some n; role = r.role; body = r.body; ending = r.ending }

abbrev pub numbered_rows : ℕ → List Row → List Row
numbered_rows n [] = []
numbered_rows n (r ∷ rs) = numbered_row n r ∷ numbered_rows (n + 1) rs

abbrev pub past_rows : ℕ → List Row → ℕ
past_rows n [] = n
past_rows n (r ∷ rs) = past_rows (n + 1) rs

abbrev pub numbered_block : ℕ → Block → Block
numbered_block n (Loose l) = Loose l
numbered_block n (Record r) = Record (record { kind = r.kind; rows = numbered_rows n r.rows; close = r.close })

abbrev pub past_block : ℕ → Block → ℕ
past_block n (Loose l) = n + 1
past_block n (Record r) = past_rows n r.rows + 1

-- the blocks with their lines numbered from n
abbrev pub numbered : ℕ → List Block → List Block
numbered n [] = []
numbered n (b ∷ bs) = numbered_block n b ∷ numbered (past_block n b) bs

abbrev pub bare_row : Row → Row
bare_row r = record { number = None; role = r.role; body = r.body; ending = r.ending }

abbrev pub bare_rows : List Row → List Row
bare_rows [] = []
bare_rows (r ∷ rs) = bare_row r ∷ bare_rows rs

abbrev pub bare_rec : Rec → Rec
bare_rec r = record { kind = r.kind; rows = bare_rows r.rows; close = r.close }

abbrev pub bare_block : Block → Block
bare_block (Loose l) = Loose l
bare_block (Record r) = Record (bare_rec r)

-- the blocks without numbers
abbrev pub bare : List Block → List Block
bare [] = []
bare (b ∷ bs) = bare_block b ∷ bare bs
