-- What holds of the changes of a text, whatever the text.
use Rattle.std.specs.Prelude.{◌≡◌, ◌≤◌, ◌<◌, ◌^◌, ℕ, zero, suc, List, [], ◌∷◌, ◌++◌, map, Some, None, Bool, true, false, if◌then◌else◌, Ok, length}
use Rattle.std.specs.Str.{bytes_eq}
use Rattle.sk_text.specs.Lines.{lines_in}
use Rattle.sk_text.specs.Keys.{parts_at_equals}
use Rattle.sk_records.specs.declared.kinds.Kind.{Kind}
use Rattle.sk_records.specs.declared.kinds.Kind.TheVariants.{Group}
use Rattle.sk_records.specs.Kinds.{same_kind, closing_of}
use Rattle.sk_records.specs.Rows.{Row, Plain, added_row, value_body, last_value, with_value, is_plain, entries, with_map}
use Rattle.sk_records.specs.Blocks.{Block, Rec, Record, AllOf, with_tails, rows_of, changed_at, removed_at, records, has, add_records, made_anew, on_record, on_records, dropped}
use Rattle.sk_records.specs.ChangeLists.{Change, all_changed, change_rows}
use Rattle.sk_records.specs.Reading.{read_lines, read_text, row_lines, block_lines}
use Rattle.sk_records.specs.Written.{IsBlock, IsText, Opened, lines_of, bytes_of, numbered, bare_rows, bare_rec, bare}
use Rattle.sk_records.specs.Given.{IsKey, IsValue, AllEnded, IsOneRecord, AreRecords, given_list, given_records, is_whole_list}

-- ---- the records of each kind after a change

-- New records are the last of their kind; records made anew are the given ones; a changed record keeps its place; a record
-- that goes leaves its place. The records of the other kinds stay.
pub record RecordsLaw : Type 0 where
  pub added_same : (k : Kind) (rs : List Rec) (bs : List Block) → AllOf k rs → records k (add_records k rs bs) ≡ records k bs ++ rows_of rs
  pub added_other : (k j : Kind) → same_kind k j ≡ false → (rs : List Rec) (bs : List Block) → AllOf k rs → records j (add_records k rs bs) ≡ records j bs
  pub anew_same : (k : Kind) (rs : List Rec) (bs : List Block) → AllOf k rs → records k (made_anew k rs bs) ≡ rows_of rs
  pub anew_other : (k j : Kind) → same_kind k j ≡ false → (rs : List Rec) (bs : List Block) → AllOf k rs → records j (made_anew k rs bs) ≡ records j bs
  pub changed_same : (k : Kind) (i : ℕ) (f : List Row → List Row) (bs : List Block) → records k (on_record k i f bs) ≡ changed_at f i (records k bs)
  pub changed_other : (k j : Kind) → same_kind k j ≡ false → (i : ℕ) (f : List Row → List Row) (bs : List Block) → records j (on_record k i f bs) ≡ records j bs
  pub mapped_same : (k : Kind) (f : List Row → List Row) (bs : List Block) → records k (on_records k f bs) ≡ map f (records k bs)
  pub mapped_other : (k j : Kind) (f : List Row → List Row) → same_kind k j ≡ false → (bs : List Block) → records j (on_records k f bs) ≡ records j bs
  pub dropped_same : (k : Kind) (i : ℕ) (bs : List Block) → records k (dropped k i bs) ≡ removed_at i (records k bs)
  pub dropped_other : (k j : Kind) → same_kind k j ≡ false → (i : ℕ) (bs : List Block) → records j (dropped k i bs) ≡ records j bs

-- ---- values and remap entries after a change

-- What was set is read; the other keys and the remap entries stay; of two values the later stays.
pub record ValuesLaw : Type 0 where
  pub whole_key : (k : Kind) (key : List ℕ) → IsKey k key → parts_at_equals key ≡ None
  pub value_set : (key value : List ℕ) (rows : List Row) → parts_at_equals key ≡ None → last_value key (with_value key value rows) ≡ Some value
  pub value_other : (key other value : List ℕ) (rows : List Row) → parts_at_equals key ≡ None → bytes_eq key other ≡ false → last_value other (with_value key value rows) ≡ last_value other rows
  pub value_twice : (key first value : List ℕ) (rows : List Row) → parts_at_equals key ≡ None → with_value key value (with_value key first rows) ≡ with_value key value rows
  pub entries_value : (key value : List ℕ) (rows : List Row) → entries (with_value key value rows) ≡ entries rows

-- no line is a plain one
abbrev pub NonePlain : List Row → Type 0
NonePlain [] = Unit {0}
NonePlain (r ∷ rs) = (is_plain r ≡ false) × NonePlain rs

-- The entries are those of the list that was set; all values stay; of two lists the later stays.
pub record ListsLaw : Type 0 where
  pub list_plain : (lines : List ℕ) → NonePlain (given_list lines)
  pub entries_set : (new rows : List Row) → entries (with_map new rows) ≡ entries new
  pub value_map : (key : List ℕ) (new rows : List Row) → NonePlain new → last_value key (with_map new rows) ≡ last_value key rows
  pub map_twice : (r : Row) (first new rows : List Row) → NonePlain (r ∷ first) → with_map new (with_map (r ∷ first) rows) ≡ with_map new rows

-- ---- passes

-- every record is as it was after the change
abbrev pub AllSame : (List Row → List Row) → List (List Row) → Type 0
AllSame f [] = Unit {0}
AllSame f (r ∷ rs) = (f r ≡ r) × AllSame f rs

-- a change of the records for which a test holds
abbrev pub where_it : (List Row → Bool) → (List Row → List Row) → List Row → List Row
where_it t f rows = if t rows then f rows else rows

abbrev pub NoneOf : (List Row → Bool) → List (List Row) → Type 0
NoneOf t [] = Unit {0}
NoneOf t (r ∷ rs) = (t r ≡ false) × NoneOf t rs

-- the test holds of the record with this place alone
abbrev pub Only : (List Row → Bool) → ℕ → List (List Row) → Type 0
Only t i [] = ⊥
Only t zero (r ∷ rs) = (t r ≡ true) × NoneOf t rs
Only t (suc i) (r ∷ rs) = (t r ≡ false) × Only t i rs

-- Two passes over the records of a kind are one; a change of one record is a pass with a test that holds of it alone; where
-- no record changes, the text doesn't.
pub record PassesLaw : Type 0 where
  pub pass_then : (k : Kind) (f g : List Row → List Row) (bs : List Block) → on_records k f (on_records k g bs) ≡ on_records k (λ (rows : List Row). f (g rows)) bs
  pub pass_at : (k : Kind) (t : List Row → Bool) (i : ℕ) (f : List Row → List Row) (bs : List Block) → Only t i (records k bs) → on_record k i f bs ≡ on_records k (where_it t f) bs
  pub pass_kept : (k : Kind) (f : List Row → List Row) (bs : List Block) → AllSame f (records k bs) → on_records k f bs ≡ bs

-- ---- what changes nothing

-- Making records anew twice is once; adding no record changes nothing, and making none anew where none stands neither.
pub record AnewLaw : Type 0 where
  pub anew_twice : (k : Kind) (r : Rec) (rs : List Rec) (bs : List Block) → AllOf k (r ∷ rs) → made_anew k (r ∷ rs) (made_anew k (r ∷ rs) bs) ≡ made_anew k (r ∷ rs) bs
  pub added_none : (k : Kind) (bs : List Block) → add_records k [] bs ≡ bs
  pub anew_none : (k : Kind) (bs : List Block) → has k bs ≡ false → made_anew k [] bs ≡ bs

-- ---- texts

abbrev pub AreRecs : List Rec → Type 0
AreRecs [] = Unit {0}
AreRecs (r ∷ rs) = IsBlock (Record r) × AreRecs rs

abbrev pub EndedRecords : List Rec → Type 0
EndedRecords [] = Unit {0}
EndedRecords (r ∷ rs) = AllEnded (block_lines (Record r)) × EndedRecords rs

-- whole records of the kind, each line ended
pub record IsGiven (k : Kind) (rs : List Rec) : Type 0 where
  pub recs : AreRecs rs
  pub ended : EndedRecords rs
  pub kind : AllOf k rs

-- a change of a record's lines that leaves them those of a record of the kind, and each ended
pub record KeepsRows (k : Kind) (f : List Row → List Row) : Type 0 where
  pub opened : (j : Kind) (rows : List Row) → same_kind j k ≡ true → Opened j rows → Opened j (f rows)
  pub ended : (rows : List Row) → AllEnded (row_lines rows) → AllEnded (row_lines (f rows))

-- Each change of a text gives a text.
pub record TextsLaw : Type 0 where
  pub given_one : (k : Kind) (lines : List ℕ) → IsOneRecord k lines → IsGiven k (given_records lines)
  pub given_with_tails : (k : Kind) (lines : List ℕ) → AreRecords k lines → IsGiven k (given_records lines)
  pub added : (k : Kind) (rs : List Rec) (bs : List Block) → IsGiven k rs → IsText bs → IsText (add_records k rs bs)
  pub anew : (k : Kind) (rs : List Rec) (bs : List Block) → IsGiven k rs → IsText bs → IsText (made_anew k rs bs)
  pub dropped : (k : Kind) (i : ℕ) (bs : List Block) → IsText bs → IsText (dropped k i bs)
  pub changed : (k : Kind) (i : ℕ) (f : List Row → List Row) (bs : List Block) → KeepsRows k f → IsText bs → IsText (on_record k i f bs)
  pub mapped : (k : Kind) (f : List Row → List Row) (bs : List Block) → KeepsRows k f → IsText bs → IsText (on_records k f bs)
  pub value_keeps : (k : Kind) (key value : List ℕ) → IsKey k key → IsValue value → KeepsRows k (with_value key value)
  pub list_keeps : (lines : List ℕ) → is_whole_list (lines_in lines) ≡ true → AllEnded (lines_in lines) → KeepsRows Group (with_map (given_list lines))

-- ---- one list

-- Adding records and then others is adding them all; setting lines of a record and adding records of its kind may be done in
-- either order.
pub record AddedLaw : Type 0 where
  pub added_then : (k : Kind) (r : Rec) (rs : List Rec) (bs : List Block) → AllOf k (r ∷ rs) → add_records k rs (add_records k (r ∷ []) bs) ≡ add_records k (r ∷ rs) bs
  pub added_joined : (k : Kind) (rs qs : List Rec) (bs : List Block) → AllOf k rs → AllOf k qs → add_records k qs (add_records k rs bs) ≡ add_records k (rs ++ qs) bs
  pub changed_added : (k : Kind) (i : ℕ) (f : List Row → List Row) (rs : List Rec) (bs : List Block) → i < length (records k bs) → on_record k i f (add_records k rs bs) ≡ add_records k rs (on_record k i f bs)

-- ---- numbers

-- a change of a record's lines that doesn't look at numbers
abbrev pub Forgets : (List Row → List Row) → Type 0
Forgets f = (rows : List Row) → bare_rows (f rows) ≡ f (bare_rows rows)

abbrev pub AllForget : List Change → Type 0
AllForget [] = Unit {0}
AllForget (c ∷ cs) = Forgets (change_rows c) × AllForget cs

-- Numbers are of no line that is written, of no value and of no entry; records made anew in a text that is numbered
-- otherwise give the same lines.
pub record NumbersLaw : Type 0 where
  pub bare_numbered : (n : ℕ) (bs : List Block) → bare (numbered n bs) ≡ bare bs
  pub bytes_bare : (bs : List Block) → bytes_of (bare bs) ≡ bytes_of bs
  pub records_bare : (k : Kind) (bs : List Block) → records k (bare bs) ≡ map bare_rows (records k bs)
  pub value_bare : (key : List ℕ) (rows : List Row) → last_value key (bare_rows rows) ≡ last_value key rows
  pub entries_bare : (rows : List Row) → entries (bare_rows rows) ≡ bare_rows (entries rows)
  pub anew_same_lines : (k : Kind) (rs : List Rec) (bs cs : List Block) → has k bs ≡ true → bare cs ≡ bare bs → lines_of (made_anew k rs cs) ≡ lines_of (made_anew k rs bs)

-- Each change of a text, its numbers then forgotten, is the same change of the text without numbers.
pub record NumberingLaw : Type 0 where
  pub value_forgets : (key value : List ℕ) → Forgets (with_value key value)
  pub map_forgets : (new : List Row) → bare_rows new ≡ new → Forgets (with_map new)
  pub list_bare : (lines : List ℕ) → bare_rows (given_list lines) ≡ given_list lines
  pub given_bare : (lines : List ℕ) → map bare_rec (given_records lines) ≡ given_records lines
  pub bare_changed : (k : Kind) (i : ℕ) (f : List Row → List Row) (bs : List Block) → Forgets f → bare (on_record k i f bs) ≡ on_record k i f (bare bs)
  pub bare_all_changed : (k : Kind) (cs : List Change) (bs : List Block) → AllForget cs → bare (all_changed k cs bs) ≡ all_changed k cs (bare bs)
  pub bare_passed : (k : Kind) (f : List Row → List Row) (bs : List Block) → Forgets f → bare (on_records k f bs) ≡ on_records k f (bare bs)
  pub bare_added : (k : Kind) (rs : List Rec) (bs : List Block) → bare (add_records k rs bs) ≡ add_records k (map bare_rec rs) (bare bs)
  pub bare_anew : (k : Kind) (rs : List Rec) (bs : List Block) → bare (made_anew k rs bs) ≡ made_anew k (map bare_rec rs) (bare bs)
  pub bare_dropped : (k : Kind) (i : ℕ) (bs : List Block) → bare (dropped k i bs) ≡ dropped k i (bare bs)

-- What is written of a text is read again as the same blocks, numbered anew from 1: its lines, and, where it is small enough for
-- a reader, the text.
pub record ReadAgainLaw : Type 0 where
  pub lines : (bs : List Block) → IsText bs → read_lines (lines_in (bytes_of bs)) ≡ Ok (numbered 1 bs)
  pub text : (bs : List Block) → IsText bs → length (bytes_of bs) ≤ 2 ^ 26 → read_text (bytes_of bs) ≡ Ok (numbered 1 bs)

-- ---- given lines

-- a line `key=value`, as a call adds it
abbrev pub value_row : List ℕ × List ℕ → Row
value_row p = added_row Plain (value_body p.0 p.1)

-- a record of lines `key=value`, each ended by a line feed
abbrev pub plain_record : Kind → List (List ℕ × List ℕ) → Rec
plain_record k pairs = record { kind = k; rows = map value_row pairs; close = record { body = closing_of k; ending = 10 ∷ [] } }

abbrev pub ArePairs : Kind → List (List ℕ × List ℕ) → Type 0
ArePairs k [] = Unit {0}
ArePairs k (p ∷ ps) = (IsKey k p.0 × IsValue p.1) × ArePairs k ps

-- The bytes of whole records are lines that may be given; they give these records, without numbers. A record of lines
-- `key=value` is a whole record.
pub record GivenLaw : Type 0 where
  pub one : (k : Kind) (r : Rec) → IsGiven k (r ∷ []) → IsOneRecord k (bytes_of (Record r ∷ []))
  pub one_is : (k : Kind) (r : Rec) → IsGiven k (r ∷ []) → given_records (bytes_of (Record r ∷ [])) ≡ bare_rec r ∷ []
  pub many : (k : Kind) (rs : List Rec) → IsGiven k rs → AreRecords k (bytes_of (with_tails rs))
  pub many_are : (k : Kind) (rs : List Rec) → IsGiven k rs → given_records (bytes_of (with_tails rs)) ≡ map bare_rec rs
  pub plain : (k : Kind) (p : List ℕ × List ℕ) (ps : List (List ℕ × List ℕ)) (rs : List Rec) → ArePairs k (p ∷ ps) → IsGiven k rs → IsGiven k (plain_record k (p ∷ ps) ∷ rs)
  pub plain_bare : (k : Kind) (ps : List (List ℕ × List ℕ)) → bare_rec (plain_record k ps) ≡ plain_record k ps
