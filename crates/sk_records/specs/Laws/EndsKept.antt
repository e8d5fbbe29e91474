-- After a change each line of a text but the last has an end.
use Rattle.std.proofs.Common.{◌≡◌, inl, inr, ℕ, zero, suc, List, [], ◌∷◌, ◌++◌, take, drop, refl, ap, sym, cond, true, false, Bool, append_assoc, subst}
use Rattle.std.proofs.lemmas.List.{append-nil, take-append-drop}
use Rattle.std.proofs.lemmas.Grind.{flat_map-append}
use Rattle.sk_text.specs.Lines.{TextLine, is_empty, IsEnd, IsEnded, IsUnended, AreLines}
use Rattle.sk_records.specs.declared.kinds.Kind.{Kind}
use Rattle.sk_records.specs.Kinds.{same_kind}
use Rattle.sk_records.specs.Rows.{Row}
use Rattle.sk_records.specs.Blocks.{Block, Rec, Loose, Record, is_of, is_blank, has, before_kind, from_kind, without, with_tails, made_anew, put_at, ended, ended_line, ended_last, on_record, on_records, dropped, tail_len, feed_line}
use Rattle.sk_records.specs.Reading.{row_line, row_lines, block_lines}
use Rattle.sk_records.specs.Written.{lines_of}
use Rattle.sk_records.specs.Given.{AllEnded}
use Rattle.sk_records.specs.Laws.Statements.{EndedRecords}
use Rattle.sk_records.specs.Laws.MadeAnew.{two}

are_more : (l : TextLine) (ls : List TextLine) → IsEnded l → AreLines ls → AreLines (l ∷ ls)
are_more l [] e is = inl e
are_more l (m ∷ ms) e is = (e, is)

are_tail : (l : TextLine) (ls : List TextLine) → AreLines (l ∷ ls) → AreLines ls
are_tail l [] is = tt
are_tail l (m ∷ ms) is = is.1

pub ended-append : (a b : List TextLine) → AllEnded a → AreLines b → AreLines (a ++ b)
ended-append [] b all is = is
ended-append (l ∷ a) b all is = are_more l (a ++ b) all.0 (ended-append a b all.1 is)

pub all-append : (a b : List TextLine) → AllEnded a → AllEnded b → AllEnded (a ++ b)
all-append [] b all is = is
all-append (l ∷ a) b all is = (all.0, all-append a b all.1 is)

-- lines with ends are lines
pub ended_are : (a : List TextLine) → AllEnded a → AreLines a
ended_are [] all = tt
ended_are (l ∷ a) all = are_more l a all.0 (ended_are a all.1)

are_left : (a : List TextLine) (l : TextLine) (b : List TextLine) → AreLines (a ++ (l ∷ b)) → AllEnded a
are_left [] l b is = tt
are_left (x ∷ []) l b is = (is.0, tt)
are_left (x ∷ (y ∷ a)) l b is = (is.0, are_left (y ∷ a) l b is.1)

are_right : (a b : List TextLine) → AreLines (a ++ b) → AreLines b
are_right [] b is = is
are_right (x ∷ a) b is = are_right a b (are_tail x (a ++ b) is)

-- a block has a line
some_line : (b : Block) (more : List TextLine) → (l : TextLine) × ((ls : List TextLine) × (block_lines b ++ more ≡ l ∷ ls))
some_line (Loose l) more = (l, (more, refl))
some_line (Record r) more = some_row r.rows
  where
    some_row : (rows : List Row) → (l : TextLine) × ((ls : List TextLine) × ((row_lines rows ++ (r.close ∷ [])) ++ more ≡ l ∷ ls))
    some_row [] = (r.close, (more, refl))
    some_row (x ∷ xs) = (row_line x, ((row_lines xs ++ (r.close ∷ [])) ++ more, refl))

-- the lines before another block have their ends
ended_before : (a : List TextLine) (b : Block) (bs : List Block) → AreLines (a ++ lines_of (b ∷ bs)) → AllEnded a
ended_before a b bs is = let s = some_line b (lines_of bs) in are_left a s.0 s.1.0 (rw s.1.1 at is)

keeps_block : (b : Block) (bs cs : List Block) → AreLines (block_lines b ++ lines_of bs) → AreLines (lines_of cs) → (bs ≡ [] → cs ≡ []) → AreLines (block_lines b ++ lines_of cs)
keeps_block b [] cs is more gone = rw (gone refl) is
keeps_block b (c ∷ bs) cs is more gone = ended-append (block_lines b) (lines_of cs) (ended_before (block_lines b) c bs is) more

pub ends_without : (k : Kind) (t : Bool) (bs : List Block) → AreLines (lines_of bs) → AreLines (lines_of (without k t bs))
ends_without k t [] is = tt
ends_without k t (b ∷ bs) is =
    let later = are_right (block_lines b) (lines_of bs) is in
    elim (two (is_of k b)) [
      | inl e ↦ rw e (ends_without k true bs later)
      | inr e ↦ rw e (elim (two (cond t (is_blank b) false)) [
        | inl f ↦ rw f (ends_without k false bs later)
        | inr f ↦ rw f (keeps_block b bs (without k false bs) is (ends_without k false bs later) (λ z. rw z refl))
      ])
    ]

pub ends_front : (k : Kind) (bs : List Block) → has k bs ≡ true → AreLines (lines_of bs) → AllEnded (lines_of (before_kind k bs))
ends_front k [] h is = tt
ends_front k (b ∷ bs) h is = elim (two (is_of k b)) [
  | inl e ↦ rw e tt
  | inr e ↦ rw e (all-append (block_lines b) (lines_of (before_kind k bs)) (before bs (rw e at h) is) (ends_front k bs (rw e at h) (are_right (block_lines b) (lines_of bs) is)))
]
  where
    before : (cs : List Block) → has k cs ≡ true → AreLines (block_lines b ++ lines_of cs) → AllEnded (block_lines b)
    before [] h is = cc
    before (c ∷ cs) h is = ended_before (block_lines b) c cs is

ends_rest : (k : Kind) (bs : List Block) → AreLines (lines_of bs) → AreLines (lines_of (from_kind k bs))
ends_rest k [] is = tt
ends_rest k (b ∷ bs) is = elim (two (is_of k b)) [ inl e ↦ rw e is | inr e ↦ rw e (ends_rest k bs (are_right (block_lines b) (lines_of bs) is)) ]

blank_ended : IsEnded feed_line
blank_ended = record { clear = tt; end = inl (refl, refl) }

pub ends_tails : (rs : List Rec) → EndedRecords rs → AllEnded (lines_of (with_tails rs))
ends_tails [] all = tt
ends_tails (r ∷ rs) all = all-append (block_lines (Record r)) (feed_line ∷ lines_of (with_tails rs)) all.0 (blank_ended, ends_tails rs all.1)

lines-append : (a b : List Block) → lines_of (a ++ b) ≡ lines_of a ++ lines_of b
lines-append a b = flat_map-append block_lines a b

-- records that are made anew in their place keep the ends
pub ends_anew : (k : Kind) (rs : List Rec) (bs : List Block) → has k bs ≡ true → EndedRecords rs → AreLines (lines_of bs) → AreLines (lines_of (made_anew k rs bs))
ends_anew k rs bs h all is =
    rw (h, lines-append (before_kind k bs) (with_tails rs ++ without k false (from_kind k bs)), lines-append (with_tails rs) (without k false (from_kind k bs)))
    (ended-append (lines_of (before_kind k bs)) (lines_of (with_tails rs) ++ lines_of (without k false (from_kind k bs))) (ends_front k bs h is)
    (ended-append (lines_of (with_tails rs)) (lines_of (without k false (from_kind k bs))) (ends_tails rs all) (ends_without k false (from_kind k bs) (ends_rest k bs is))))

-- what is put behind a line that got an end
pub ends_put : (n : ℕ) (b : Block) (new bs : List Block) → AllEnded (lines_of (ended_last (take n bs))) → AllEnded (lines_of (b ∷ new)) → AreLines (lines_of bs) → AreLines (lines_of (put_at n (b ∷ new) bs))
ends_put n b new bs ended all is =
    let cut = subst (λ (l : List Block). AreLines (lines_of l)) (sym (take-append-drop n bs)) is in
    let split : AreLines (lines_of (take n bs) ++ lines_of (drop n bs)) = subst AreLines (lines-append (take n bs) (drop n bs)) cut in
    let behind : AreLines (lines_of (drop n bs)) = are_right (lines_of (take n bs)) (lines_of (drop n bs)) split in
    rw (lines-append (ended_last (take n bs)) ((b ∷ new) ++ drop n bs), lines-append (b ∷ new) (drop n bs))
    (ended-append (lines_of (ended_last (take n bs))) (lines_of (b ∷ new) ++ lines_of (drop n bs)) ended (ended-append (lines_of (b ∷ new)) (lines_of (drop n bs)) all behind))

-- a line that may get an end: where it has none, it is a line with one then
abbrev pub Mends : TextLine → Type 0
Mends l = IsUnended l → IsEnded (record { body = l.body; ending = 10 ∷ [] })

abbrev pub last_line : Block → TextLine
last_line (Loose l) = l
last_line (Record r) = r.close

end_some : (body ending : List ℕ) → IsEnd body ending → is_empty ending ≡ false
end_some body ending (inl e) = ap is_empty e.0
end_some body ending (inr e) = ap is_empty e

line_mended : (l : TextLine) → Mends l → AreLines (l ∷ []) → IsEnded (ended_line l)
line_mended l mends (inl is) = rw (end_some l.body l.ending is.end) is
line_mended l mends (inr is) = rw is.none (mends is)

block_mended : (b : Block) → Mends (last_line b) → AreLines (block_lines b) → AllEnded (block_lines (ended b))
block_mended (Loose l) mends is = (line_mended l mends is, tt)
block_mended (Record r) mends is = all-append (row_lines r.rows) (ended_line r.close ∷ []) (are_left (row_lines r.rows) r.close [] is) (line_mended r.close mends (are_right (row_lines r.rows) (r.close ∷ []) is), tt)

abbrev pub LastMends : List Block → Type 0
LastMends [] = Unit {0}
LastMends (b ∷ []) = Mends (last_line b)
LastMends (b ∷ (c ∷ cs)) = LastMends (c ∷ cs)

-- a last line that may get an end gets one
pub ends_mended : (bs : List Block) → LastMends bs → AreLines (lines_of bs) → AllEnded (lines_of (ended_last bs))
ends_mended [] mends is = tt
ends_mended (b ∷ []) mends is = all-append (block_lines (ended b)) [] (block_mended b mends (rw append-nil at is)) tt
ends_mended (b ∷ (c ∷ cs)) mends is = all-append (block_lines b) (lines_of (ended_last (c ∷ cs))) (ended_before (block_lines b) c cs is) (ends_mended (c ∷ cs) mends (are_right (block_lines b) (lines_of (c ∷ cs)) is))

pub ends_take : (n : ℕ) (bs : List Block) → AreLines (lines_of bs) → AreLines (lines_of (take n bs))
ends_take zero bs is = tt
ends_take (suc n) [] is = tt
ends_take (suc n) (b ∷ bs) is = keeps_block b bs (take n bs) is (ends_take n bs (are_right (block_lines b) (lines_of bs) is)) (λ z. rw z (take_none n))
  where
    take_none : (n : ℕ) → ◌≡◌ {A = List Block} (take n []) []
    take_none zero = refl
    take_none (suc n) = refl

-- records whose lines keep their ends keep those of the text
pub ends_on_records : (k : Kind) (f : List Row → List Row) (bs : List Block) → ((rows : List Row) → AllEnded (row_lines rows) → AllEnded (row_lines (f rows))) → AreLines (lines_of bs) → AreLines (lines_of (on_records k f bs))
ends_on_records k f [] keeps is = tt
ends_on_records k f (Loose r ∷ bs) keeps is = keeps_block (Loose r) bs (on_records k f bs) is (ends_on_records k f bs keeps (are_right (r ∷ []) (lines_of bs) is)) (λ z. rw z refl)
ends_on_records k f (Record r ∷ bs) keeps is =
    let later : AreLines (lines_of (on_records k f bs)) = ends_on_records k f bs keeps (are_right (block_lines (Record r)) (lines_of bs) is) in
    elim (two (same_kind r.kind k)) [
      | inl e ↦ (
          let split : AreLines (row_lines r.rows ++ (r.close ∷ lines_of bs)) = subst AreLines (append_assoc (row_lines r.rows) (r.close ∷ []) (lines_of bs)) is in
          let close : AreLines (r.close ∷ lines_of (on_records k f bs)) = keeps_block (Loose r.close) bs (on_records k f bs) (are_right (row_lines r.rows) (r.close ∷ lines_of bs) split) later (λ z. rw z refl) in
          rw (e, append_assoc) (ended-append (row_lines (f r.rows)) (r.close ∷ lines_of (on_records k f bs)) (keeps r.rows (are_left (row_lines r.rows) (r.close) (lines_of bs) split)) close))
      | inr e ↦ rw e (keeps_block (Record r) bs (on_records k f bs) is later (λ z. rw z refl))
    ]

drop_tail : (bs : List Block) → AreLines (lines_of bs) → AreLines (lines_of (drop (tail_len bs) bs))
drop_tail [] is = tt
drop_tail (b ∷ bs) is = elim (two (is_blank b)) [ inl e ↦ rw e (are_right (block_lines b) (lines_of bs) is) | inr e ↦ rw e is ]

-- a text from which a record goes keeps the ends
pub ends_dropped : (k : Kind) (i : ℕ) (bs : List Block) → AreLines (lines_of bs) → AreLines (lines_of (dropped k i bs))
ends_dropped k i [] is = tt
ends_dropped k zero (b ∷ bs) is = elim (two (is_of k b)) [
  | inl e ↦ rw e (drop_tail bs (are_right (block_lines b) (lines_of bs) is))
  | inr e ↦ rw e (keeps_block b bs (dropped k zero bs) is (ends_dropped k zero bs (are_right (block_lines b) (lines_of bs) is)) (λ z. rw z refl))
]
ends_dropped k (suc i) (b ∷ bs) is = elim (two (is_of k b)) [
  | inl e ↦ rw e (keeps_block b bs (dropped k i bs) is (ends_dropped k i bs (are_right (block_lines b) (lines_of bs) is)) (λ z. rw z refl))
  | inr e ↦ rw e (keeps_block b bs (dropped k (suc i) bs) is (ends_dropped k (suc i) bs (are_right (block_lines b) (lines_of bs) is)) (λ z. rw z refl))
]

none_on_record : (k : Kind) (i : ℕ) (f : List Row → List Row) (bs : List Block) → bs ≡ [] → on_record k i f bs ≡ []
none_on_record k i f bs z = rw z refl

-- a text with one changed record keeps the ends
pub ends_on_record : (k : Kind) (i : ℕ) (f : List Row → List Row) (bs : List Block) → ((rows : List Row) → AllEnded (row_lines rows) → AllEnded (row_lines (f rows))) → AreLines (lines_of bs) → AreLines (lines_of (on_record k i f bs))
ends_on_record k i f [] keeps is = tt
ends_on_record k zero f (Loose l ∷ bs) keeps is = keeps_block (Loose l) bs (on_record k zero f bs) is (ends_on_record k zero f bs keeps (are_right (l ∷ []) (lines_of bs) is)) (none_on_record k zero f bs)
ends_on_record k (suc i) f (Loose l ∷ bs) keeps is = keeps_block (Loose l) bs (on_record k (suc i) f bs) is (ends_on_record k (suc i) f bs keeps (are_right (l ∷ []) (lines_of bs) is)) (none_on_record k (suc i) f bs)
ends_on_record k zero f (Record r ∷ bs) keeps is = elim (two (same_kind r.kind k)) [
  | inl e ↦ (
      let split : AreLines (row_lines r.rows ++ (r.close ∷ lines_of bs)) = subst AreLines (append_assoc (row_lines r.rows) (r.close ∷ []) (lines_of bs)) is in
      rw (e, append_assoc) (ended-append (row_lines (f r.rows)) (r.close ∷ lines_of bs) (keeps r.rows (are_left (row_lines r.rows) r.close (lines_of bs) split)) (are_right (row_lines r.rows) (r.close ∷ lines_of bs) split)))
  | inr e ↦ rw e (keeps_block (Record r) bs (on_record k zero f bs) is (ends_on_record k zero f bs keeps (are_right (block_lines (Record r)) (lines_of bs) is)) (none_on_record k zero f bs))
]
ends_on_record k (suc i) f (Record r ∷ bs) keeps is =
    let later : AreLines (lines_of bs) = are_right (block_lines (Record r)) (lines_of bs) is in
    elim (two (same_kind r.kind k)) [
      | inl e ↦ rw e (keeps_block (Record r) bs (on_record k i f bs) is (ends_on_record k i f bs keeps later) (none_on_record k i f bs))
      | inr e ↦ rw e (keeps_block (Record r) bs (on_record k (suc i) f bs) is (ends_on_record k (suc i) f bs keeps later) (none_on_record k (suc i) f bs))
    ]
