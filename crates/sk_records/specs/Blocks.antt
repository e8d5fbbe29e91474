-- A text as blocks: records, and the lines that stand between them.
use Rattle.std.specs.Prelude.{◌≡◌, ℕ, suc, zero, List, [], ◌∷◌, ◌++◌, Option, Some, None, Bool, true, false, if◌then◌else◌, take, drop, unwrap_or}
use Rattle.std.specs.Option.{option_map, option_or}
use Rattle.std.specs.List.{flat_map}
use Rattle.sk_text.specs.Lines.{TextLine, is_empty}
use Rattle.sk_records.specs.declared.kinds.Kind.{Kind}
use Rattle.sk_records.specs.Kinds.{same_kind, kinds_to}
use Rattle.sk_records.specs.Rows.{Row}

-- a record: its lines, and apart the line that closes it
pub record Rec : Type 0 where
  pub kind : Kind
  pub rows : List Row
  pub close : TextLine

-- a line that stands between records (the first line of the text among them), or a record
pub data Block : Type 0 where
  Loose : TextLine → Block
  Record : Rec → Block

abbrev pub is_of : Kind → Block → Bool
is_of k (Loose l) = false
is_of k (Record r) = same_kind r.kind k

abbrev pub of_kind : Kind → Block → List (List Row)
of_kind k (Loose l) = []
of_kind k (Record r) = if same_kind r.kind k then r.rows ∷ [] else []

-- the records of a kind, in their order: of each its lines but the closing one
abbrev pub records : Kind → List Block → List (List Row)
records k bs = flat_map (of_kind k) bs

abbrev pub has : Kind → List Block → Bool
has k [] = false
has k (b ∷ bs) = if is_of k b then true else has k bs

abbrev pub is_blank : Block → Bool
is_blank (Loose l) = is_empty l.body
is_blank (Record r) = false

-- The tail of a record is the empty line directly behind it: how many of the blocks behind it that is.
abbrev pub tail_len : List Block → ℕ
tail_len [] = 0
tail_len (b ∷ bs) = if is_blank b then 1 else 0

-- ---- where new records go

-- how many blocks stand up to the last record of a kind and its tail
abbrev pub end_of_last : Kind → List Block → Option ℕ
end_of_last k [] = None
end_of_last k (b ∷ bs) = option_or (option_map suc (end_of_last k bs)) (if is_of k b then Some (suc (tail_len bs)) else None)

abbrev pub first_end : List Kind → List Block → Option ℕ
first_end [] bs = None
first_end (k ∷ ks) bs = option_or (end_of_last k bs) (first_end ks bs)

-- behind the last record of the kind, else of the nearest earlier kind, else behind the first line
abbrev pub new_place : Kind → List Block → ℕ
new_place k bs = unwrap_or (first_end (kinds_to k) bs) 1

-- ---- what is put

abbrev pub feed_line : TextLine
feed_line = record { body = []; ending = 10 ∷ [] }

-- a line without an end gets one
abbrev pub ended_line : TextLine → TextLine
ended_line l = if is_empty l.ending then record { body = l.body; ending = 10 ∷ [] } else l

abbrev pub ended : Block → Block
ended (Loose l) = Loose (ended_line l)
ended (Record r) = Record (record { kind = r.kind; rows = r.rows; close = ended_line r.close })

abbrev pub ended_last : List Block → List Block
ended_last [] = []
ended_last (b ∷ []) = ended b ∷ []
ended_last (b ∷ (c ∷ cs)) = b ∷ ended_last (c ∷ cs)

-- The line before what is put gets an end; where nothing is put, all stays.
abbrev pub put_at : ℕ → List Block → List Block → List Block
put_at n [] bs = bs
put_at n (b ∷ new) bs = ended_last (take n bs) ++ (b ∷ new ++ drop n bs)

-- records, each followed by an empty line
abbrev pub with_tails : List Rec → List Block
with_tails [] = []
with_tails (r ∷ rs) = Record r ∷ Loose feed_line ∷ with_tails rs

-- ---- the changes of a text

-- New records are put at the place of their kind.
abbrev pub add_records : Kind → List Rec → List Block → List Block
add_records k rs bs = put_at (new_place k bs) (with_tails rs) bs

-- the blocks before the first record of a kind
abbrev pub before_kind : Kind → List Block → List Block
before_kind k [] = []
before_kind k (b ∷ bs) = if is_of k b then [] else b ∷ before_kind k bs

-- the blocks from the first record of a kind on
abbrev pub from_kind : Kind → List Block → List Block
from_kind k [] = []
from_kind k (b ∷ bs) = if is_of k b then b ∷ bs else from_kind k bs

-- The records of a kind go, and their tails. The flag says that a record went just before.
abbrev pub without : Kind → Bool → List Block → List Block
without k after [] = []
without k after (b ∷ bs) =
    if is_of k b then without k true bs else
    if (if after then is_blank b else false) then without k false bs else
    b ∷ without k false bs

-- All records of a kind are made anew, where the first stood; where none stood, they are new records.
abbrev pub made_anew : Kind → List Rec → List Block → List Block
made_anew k rs bs = if has k bs then before_kind k bs ++ (with_tails rs ++ without k false (from_kind k bs)) else add_records k rs bs

abbrev pub with_rows : (List Row → List Row) → Block → Block
with_rows f (Loose l) = Loose l
with_rows f (Record r) = Record (record { kind = r.kind; rows = f r.rows; close = r.close })

-- The record with a place in its kind is changed.
abbrev pub on_record : Kind → ℕ → (List Row → List Row) → List Block → List Block
on_record k i f [] = []
on_record k zero f (b ∷ bs) = if is_of k b then with_rows f b ∷ bs else b ∷ on_record k zero f bs
on_record k (suc i) f (b ∷ bs) = if is_of k b then b ∷ on_record k i f bs else b ∷ on_record k (suc i) f bs

abbrev pub on_block : Kind → (List Row → List Row) → Block → Block
on_block k f (Loose l) = Loose l
on_block k f (Record r) = if same_kind r.kind k then Record (record { kind = r.kind; rows = f r.rows; close = r.close }) else Record r

-- All records of a kind are changed, each by itself: one pass.
abbrev pub on_records : Kind → (List Row → List Row) → List Block → List Block
on_records k f [] = []
on_records k f (b ∷ bs) = on_block k f b ∷ on_records k f bs

-- The record with a place in its kind goes, and its tail.
abbrev pub dropped : Kind → ℕ → List Block → List Block
dropped k i [] = []
dropped k zero (b ∷ bs) = if is_of k b then drop (tail_len bs) bs else b ∷ dropped k zero bs
dropped k (suc i) (b ∷ bs) = if is_of k b then b ∷ dropped k i bs else b ∷ dropped k (suc i) bs

-- ---- lists of records

abbrev pub AllOf : Kind → List Rec → Type 0
AllOf k [] = Unit {0}
AllOf k (r ∷ rs) = (same_kind r.kind k ≡ true) × AllOf k rs

abbrev pub rows_of : List Rec → List (List Row)
rows_of [] = []
rows_of (r ∷ rs) = r.rows ∷ rows_of rs

abbrev pub changed_at : {X : Type 0} → (X → X) → ℕ → List X → List X
changed_at f i [] = []
changed_at f zero (x ∷ xs) = f x ∷ xs
changed_at f (suc i) (x ∷ xs) = x ∷ changed_at f i xs

abbrev pub removed_at : {X : Type 0} → ℕ → List X → List X
removed_at i [] = []
removed_at zero (x ∷ xs) = xs
removed_at (suc i) (x ∷ xs) = x ∷ removed_at i xs
