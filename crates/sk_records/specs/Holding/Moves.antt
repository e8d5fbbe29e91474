-- One line is read: what it does to the items so far.
use Rattle.std.specs.Prelude.{◌≡◌, ◌≤◌, ◌<◌, ◌+◌, ℕ, List, [], ◌∷◌, ◌++◌, length, take, drop, Option, Some, None, Result, Ok, Err, Vec}
use Rattle.std.specs.List.{All}
use Rattle.sk_text.specs.Lines.{PlacedLine, lines_in, line_bytes}
use Rattle.sk_records.specs.declared.kinds.Kind.{Kind}
use Rattle.sk_records.specs.declared.faults.ReadFault.{ReadFault}
use Rattle.sk_records.specs.declared.faults.ReadFault.TheVariants as fault
use Rattle.sk_records.specs.declared.rows.Span.{Span}
use Rattle.sk_records.specs.declared.items.Item.{Item}
use Rattle.sk_records.specs.declared.reading.Open.{Open}
use Rattle.sk_records.specs.Rows.{Row}
use Rattle.sk_records.specs.Blocks.{Block}
use Rattle.sk_records.specs.Answers.{IsFault}
use Rattle.sk_records.specs.Reading.{State, Outside, Inside, Within, Step, Bad, Goes, Gives, at_end}
use Rattle.sk_records.specs.Holding.Held.{rows_at, blocks_at, line_at, IsWithin, RowWithin}

abbrev pub state_in : Kind → ℕ → List Row → Option ℕ → State
state_in k first rows None = Inside k first rows
state_in k first rows (Some at) = Within k first at rows

abbrev pub state_of : List ℕ → Option Open → State
state_of text None = Outside
state_of text (Some o) = state_in o.kind o.first (rows_at text o.rows.items) o.list

abbrev pub moved : Step → List Block → Option (List Block × State)
moved Bad bs = None
moved (Goes t) bs = Some (bs, t)
moved (Gives b t) bs = Some (bs ++ b ∷ [], t)

-- the step was done, or the line is bad
abbrev pub Moves : List ℕ → List Item → List Item → ℕ → Step → Result (Option Open) ReadFault → Type 0
Moves text old new n s (Ok current) = moved s (blocks_at text old) ≡ Some (blocks_at text new, state_of text current)
Moves text old new n s (Err fault.NoMemory) = Unit {0}
Moves text old new n s (Err (fault.BadLine m)) = (s ≡ Bad) × (m ≡ n)
Moves text old new n s (Err (fault.OpenMap m)) = ⊥
Moves text old new n s (Err (fault.OpenRecord m)) = ⊥
Moves text old new n s (Err fault.TooLarge) = ⊥
Moves text old new n s (Err fault.BadHeader) = ⊥

abbrev pub OpenWithin : List ℕ → Option Open → Type 0
OpenWithin text None = Unit {0}
OpenWithin text (Some o) = All (RowWithin text) o.rows.items

-- the numbers that an open record carries are below a bound
abbrev pub list_below : ℕ → Option ℕ → Type 0
list_below n None = Unit {0}
list_below n (Some at) = at < n

abbrev pub IsBelow : ℕ → Option Open → Type 0
IsBelow n None = Unit {0}
IsBelow n (Some o) = (o.first < n) × list_below n o.list

-- a line of the text, which is the only line of its own bytes
pub record IsLine (text : List ℕ) (s : Span) : Type 0 where
  pub within : IsWithin text s
  pub one : lines_in (line_bytes (line_at text s)) ≡ line_at text s ∷ []

-- the line stands in the text where it says, counted from a base; its end has at most two bytes
pub record IsPartFrom (text : List ℕ) (base : ℕ) (p : PlacedLine) : Type 0 where
  pub within : base + p.at + length (line_bytes p.line) ≤ length text
  pub bytes : take (length (line_bytes p.line)) (drop (base + p.at) text) ≡ line_bytes p.line
  pub short : length p.line.ending ≤ 2

abbrev pub IsRead : {A : Type 0} → List ℕ → Result (Vec Item A) ReadFault → Result (List Block) ReadFault → Type 0
IsRead text (Ok v) r = r ≡ Ok (blocks_at text v.items)
IsRead text (Err e) r = IsFault fault.NoMemory e r

abbrev pub IsEnd : {U : Type 0} → State → Result U ReadFault → Type 0
IsEnd s (Ok u) = at_end s ≡ Ok []
IsEnd s (Err e) = IsFault fault.NoMemory e (at_end s)

abbrev pub onto : List Block → Result (List Block) ReadFault → Result (List Block) ReadFault
onto bs (Ok cs) = Ok (bs ++ cs)
onto bs (Err e) = Err e
