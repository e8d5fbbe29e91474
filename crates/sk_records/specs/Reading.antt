-- How the lines of a text are read as blocks, or its first fault.
use Rattle.std.specs.Prelude.{ℕ, ◌+◌, ◌^◌, List, [], ◌∷◌, ◌++◌, Some, if◌then◌else◌, nat_le, Result, Ok, Err, length}
use Rattle.sk_text.specs.Lines.{TextLine, lines_in}
use Rattle.sk_records.specs.declared.kinds.Kind.{Kind}
use Rattle.sk_records.specs.declared.kinds.Kind.TheVariants.{Group}
use Rattle.sk_records.specs.declared.faults.ReadFault.{ReadFault}
use Rattle.sk_records.specs.declared.faults.ReadFault.TheVariants as fault
use Rattle.sk_records.specs.Kinds.{same_kind}
use Rattle.sk_records.specs.Rows.{Row, Role, Plain, Brace, Entry}
use Rattle.sk_records.specs.Blocks.{Block, Loose, Record}
use Rattle.sk_records.specs.Classes.{LineClass, Empty, Value, Opens, Closes, Surface, Unknown, class_of, is_header, is_shut, is_entry}

-- Outside of records; inside of one, with its first line's number and its lines so far; or within a remap list of it,
-- with the number of the line that opened the list.
pub data State : Type 0 where
  Outside : State
  Inside : Kind → ℕ → List Row → State
  Within : Kind → ℕ → ℕ → List Row → State

-- what one line does: it is bad, it goes into the open record, or it gives a block
pub data Step : Type 0 where
  Bad : Step
  Goes : State → Step
  Gives : Block → State → Step

abbrev pub row_at : ℕ → Role → TextLine → Row
row_at n role l = record { number = Some n; role = role; body = l.body; ending = l.ending }

-- outside of records an empty line or a surface line stands by itself, and a value line opens a record
abbrev pub outside : ℕ → TextLine → LineClass → Step
outside n l Empty = Gives (Loose l) Outside
outside n l (Value k) = Goes (Inside k n (row_at n Plain l ∷ []))
outside n l Opens = Bad
outside n l (Closes k) = Bad
outside n l Surface = Gives (Loose l) Outside
outside n l Unknown = Bad

-- in a record stand empty lines, value lines of its kind, remap lists of a group, and the closing line of its kind
abbrev pub inside : ℕ → Kind → ℕ → List Row → TextLine → LineClass → Step
inside n k first rows l Empty = Goes (Inside k first (rows ++ row_at n Plain l ∷ []))
inside n k first rows l (Value j) = if same_kind j k then Goes (Inside k first (rows ++ row_at n Plain l ∷ [])) else Bad
inside n k first rows l Opens = if same_kind k Group then Goes (Within k first n (rows ++ row_at n Brace l ∷ [])) else Bad
inside n k first rows l (Closes j) = if same_kind j k then Gives (Record (record { kind = k; rows = rows; close = l })) Outside else Bad
inside n k first rows l Surface = Bad
inside n k first rows l Unknown = Bad

-- within a remap list stand entries, until the line that shuts it
abbrev pub within : ℕ → Kind → ℕ → ℕ → List Row → TextLine → Step
within n k first at rows l =
    if is_shut l.body then Goes (Inside k first (rows ++ row_at n Brace l ∷ [])) else
    if is_entry l.body then Goes (Within k first at (rows ++ row_at n Entry l ∷ [])) else
    Bad

abbrev pub step : ℕ → State → TextLine → Step
step n Outside l = outside n l (class_of l.body)
step n (Inside k first rows) l = inside n k first rows l (class_of l.body)
step n (Within k first at rows) l = within n k first at rows l

abbrev pub at_end : State → Result (List Block) ReadFault
at_end Outside = Ok []
at_end (Inside k first rows) = Err (fault.OpenRecord first)
at_end (Within k first at rows) = Err (fault.OpenMap at)

abbrev pub with_block : Block → Result (List Block) ReadFault → Result (List Block) ReadFault
with_block b (Ok bs) = Ok (b ∷ bs)
with_block b (Err e) = Err e

abbrev pub onward : ℕ → Step → (State → Result (List Block) ReadFault) → Result (List Block) ReadFault
onward n Bad f = Err (fault.BadLine n)
onward n (Goes s) f = f s
onward n (Gives b s) f = with_block b (f s)

-- the blocks of the lines from line n on, or the first fault
abbrev pub read_from : ℕ → State → List TextLine → Result (List Block) ReadFault
read_from n s [] = at_end s
read_from n s (l ∷ ls) = onward n (step n s l) (λ t. read_from (n + 1) t ls)

-- the blocks of a text's lines: the first is the header, and stands by itself
abbrev pub read_lines : List TextLine → Result (List Block) ReadFault
read_lines [] = Err fault.BadHeader
read_lines (l ∷ ls) = if is_header l.body then with_block (Loose l) (read_from 2 Outside ls) else Err fault.BadHeader

-- the blocks of a text of at most 2^26 bytes, or its first fault
abbrev pub read_text : List ℕ → Result (List Block) ReadFault
read_text text = if nat_le (length text) (2 ^ 26) then read_lines (lines_in text) else Err fault.TooLarge

-- ---- the lines of blocks

abbrev pub row_line : Row → TextLine
row_line r = record { body = r.body; ending = r.ending }

abbrev pub row_lines : List Row → List TextLine
row_lines [] = []
row_lines (r ∷ rs) = row_line r ∷ row_lines rs

abbrev pub block_lines : Block → List TextLine
block_lines (Loose l) = l ∷ []
block_lines (Record r) = row_lines r.rows ++ r.close ∷ []
