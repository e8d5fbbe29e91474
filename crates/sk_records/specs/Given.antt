-- What callers give: keys, values, and lines of whole lists and records.
use Rattle.std.specs.Prelude.{◌≡◌, ℕ, List, [], ◌∷◌, Bool, true, false, if◌then◌else◌, nat_eq, Result, Ok, Err, None, map, codes}
use Rattle.std.specs.Str.{bytes_eq}
use Rattle.std.specs.List.{list_any}
use Rattle.sk_text.specs.Lines.{TextLine, lines_in, ends_in_return, IsEnded}
use Rattle.sk_records.specs.declared.kinds.Kind.{Kind}
use Rattle.sk_records.specs.declared.faults.ReadFault.{ReadFault}
use Rattle.sk_records.specs.Kinds.{same_kind, prefix_of}
use Rattle.sk_records.specs.Rows.{Row, Role, Brace, Entry}
use Rattle.sk_records.specs.Blocks.{Block, Rec, Loose, Record, AllOf, with_tails}
use Rattle.sk_records.specs.Classes.{starts, is_opening, is_shut, is_entry}
use Rattle.sk_records.specs.Reading.{read_from, Outside}
use Rattle.sk_records.specs.Written.{bare}

abbrev pub has_byte : ℕ → List ℕ → Bool
has_byte x bytes = list_any (λ b. nat_eq b x) bytes

-- a key of a record of the kind: it begins with the kind's prefix, isn't `Group.remap`, and has no `=` and no line feed
pub record IsKey (k : Kind) (key : List ℕ) : Type 0 where
  pub prefix : starts (prefix_of k) key ≡ true
  pub no_list : bytes_eq key (codes "Group.remap") ≡ false
  pub no_equals : has_byte 61 key ≡ false
  pub no_feed : has_byte 10 key ≡ false

-- a value: no line feed, and no carriage return at its end
pub record IsValue (value : List ℕ) : Type 0 where
  pub no_feed : has_byte 10 value ≡ false
  pub no_return : ends_in_return value ≡ false

abbrev pub AllEnded : List TextLine → Type 0
AllEnded [] = Unit {0}
AllEnded (l ∷ ls) = IsEnded l × AllEnded ls

-- ---- a remap list

abbrev pub is_end_of_list : List TextLine → Bool
is_end_of_list [] = true
is_end_of_list (l ∷ ls) = false

abbrev pub is_list_rest : List TextLine → Bool
is_list_rest [] = false
is_list_rest (l ∷ ls) = if is_shut l.body then is_end_of_list ls else if is_entry l.body then is_list_rest ls else false

-- one whole remap list: `Group.remap={`, entries, `}`
abbrev pub is_whole_list : List TextLine → Bool
is_whole_list [] = false
is_whole_list (l ∷ ls) = if is_opening l.body then is_list_rest ls else false

abbrev pub list_role : List ℕ → Role
list_role body = if is_opening body then Brace else if is_shut body then Brace else Entry

abbrev pub list_row : TextLine → Row
list_row l = record { number = None; role = list_role l.body; body = l.body; ending = l.ending }

-- the rows of a given list
abbrev pub given_list : List ℕ → List Row
given_list lines = map list_row (lines_in lines)

-- ---- records

-- given lines as blocks
abbrev pub read_given : List ℕ → Result (List Block) ReadFault
read_given lines = read_from 1 Outside (lines_in lines)

abbrev pub recs_of : List Block → List Rec
recs_of [] = []
recs_of (Loose l ∷ bs) = recs_of bs
recs_of (Record r ∷ bs) = r ∷ recs_of bs

abbrev pub recs_read : Result (List Block) ReadFault → List Rec
recs_read (Ok bs) = recs_of (bare bs)
recs_read (Err e) = []

-- the records that are given, their lines without numbers
abbrev pub given_records : List ℕ → List Rec
given_records lines = recs_read (read_given lines)

-- the lines are one whole record of the kind, without a tail
pub record IsOneRecord (k : Kind) (lines : List ℕ) : Type 0 where
  pub given : Rec
  pub read : read_given lines ≡ Ok (Record given ∷ [])
  pub kind : same_kind given.kind k ≡ true
  pub ended : AllEnded (lines_in lines)

-- the lines are whole records of the kind, each with an empty line behind it
pub record AreRecords (k : Kind) (lines : List ℕ) : Type 0 where
  pub given : List Rec
  pub read : read_given lines ≡ Ok (with_tails given)
  pub kind : AllOf k given
  pub ended : AllEnded (lines_in lines)
