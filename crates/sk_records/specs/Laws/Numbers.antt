-- Numbers change no line, and decide nothing.
use Rattle.std.proofs.Common.{◌≡◌, inl, inr, ℕ, ◌+◌, List, [], ◌∷◌, ◌++◌, map, refl, ap, sym, ◌∙◌, cond, true, false, Bool}
use Rattle.sk_records.specs.declared.kinds.Kind.{Kind}
use Rattle.sk_records.specs.Kinds.{same_kind}
use Rattle.sk_records.specs.Rows.{Row, last_value, entries, is_entry_role}
use Rattle.sk_records.specs.Blocks.{Block, Rec, Loose, Record, is_of, is_blank, has, before_kind, from_kind, without, with_tails, made_anew, records}
use Rattle.sk_records.specs.Reading.{row_line, row_lines, block_lines}
use Rattle.sk_records.specs.Written.{lines_of, numbered_rows, numbered_block, past_block, numbered, bare_row, bare_rows, bare_block, bare}
use Rattle.sk_records.specs.Laws.MadeAnew.{two}

rows_lines : (rs : List Row) → row_lines (bare_rows rs) ≡ row_lines rs
rows_lines [] = refl
rows_lines (r ∷ rs) = ap (λ l. row_line r ∷ l) (rows_lines rs)

block_same : (b : Block) → block_lines (bare_block b) ≡ block_lines b
block_same (Loose r) = refl
block_same (Record r) = ap (λ l. l ++ (r.close ∷ [])) (rows_lines r.rows)

pub lines_bare : (bs : List Block) → lines_of (bare bs) ≡ lines_of bs
lines_bare [] = refl
lines_bare (b ∷ bs) = rw (block_same b, lines_bare bs) refl

rows_numbered : (n : ℕ) (rs : List Row) → bare_rows (numbered_rows n rs) ≡ bare_rows rs
rows_numbered n [] = refl
rows_numbered n (r ∷ rs) = ap (λ l. bare_row r ∷ l) (rows_numbered (n + 1) rs)

block_numbered : (n : ℕ) (b : Block) → bare_block (numbered_block n b) ≡ bare_block b
block_numbered n (Loose r) = refl
block_numbered n (Record r) = ap (λ (l : List Row). Record (record { kind = r.kind; rows = l; close = r.close })) (rows_numbered n r.rows)

pub bare_numbered : (n : ℕ) (bs : List Block) → bare (numbered n bs) ≡ bare bs
bare_numbered n [] = refl
bare_numbered n (b ∷ bs) = rw (block_numbered n b, bare_numbered (past_block n b) bs) refl

pub of_same : (k : Kind) (b : Block) → is_of k (bare_block b) ≡ is_of k b
of_same k (Loose r) = refl
of_same k (Record r) = refl

pub blank_same : (b : Block) → is_blank (bare_block b) ≡ is_blank b
blank_same (Loose r) = refl
blank_same (Record r) = refl

pub has_same : (k : Kind) (bs : List Block) → has k (bare bs) ≡ has k bs
has_same k [] = refl
has_same k (b ∷ bs) = rw (of_same k b, has_same k bs) refl

pub bare-append : (a b : List Block) → bare (a ++ b) ≡ bare a ++ bare b
bare-append [] b = refl
bare-append (x ∷ a) b = ap (λ l. bare_block x ∷ l) (bare-append a b)

pub bare_front : (k : Kind) (bs : List Block) → bare (before_kind k bs) ≡ before_kind k (bare bs)
bare_front k [] = refl
bare_front k (b ∷ bs) = rw (of_same k b) (elim (two (is_of k b)) [ inl e ↦ rw e refl | inr e ↦ rw e (ap (λ l. bare_block b ∷ l) (bare_front k bs)) ])

pub bare_rest : (k : Kind) (bs : List Block) → bare (from_kind k bs) ≡ from_kind k (bare bs)
bare_rest k [] = refl
bare_rest k (b ∷ bs) = rw (of_same k b) (elim (two (is_of k b)) [ inl e ↦ rw e refl | inr e ↦ rw e (bare_rest k bs) ])

pub bare_without : (k : Kind) (t : Bool) (bs : List Block) → bare (without k t bs) ≡ without k t (bare bs)
bare_without k t [] = refl
bare_without k t (b ∷ bs) = rw (of_same k b, blank_same b) (elim (two (is_of k b)) [
  | inl e ↦ rw e (bare_without k true bs)
  | inr e ↦ rw e (elim (two (cond t (is_blank b) false)) [ inl f ↦ rw f (bare_without k false bs) | inr f ↦ rw f (ap (λ l. bare_block b ∷ l) (bare_without k false bs)) ])
])

-- the lines of records made anew where some stand, by the blocks without numbers
anew_lines : (k : Kind) (rs : List Rec) (bs : List Block) → has k bs ≡ true → lines_of (made_anew k rs bs) ≡ lines_of (before_kind k (bare bs) ++ (bare (with_tails rs) ++ without k false (from_kind k (bare bs))))
anew_lines k rs bs h =
    rw h (sym (lines_bare (before_kind k bs ++ (with_tails rs ++ without k false (from_kind k bs))))
    ∙ ap lines_of (bare-append (before_kind k bs) (with_tails rs ++ without k false (from_kind k bs)) ∙ ap (λ l. bare (before_kind k bs) ++ l) (bare-append (with_tails rs) (without k false (from_kind k bs))))
    ∙ rw (bare_front k bs, bare_without k false (from_kind k bs), bare_rest k bs) refl)

-- records made anew in a text that is numbered otherwise give the same lines
pub anew_same_lines : (k : Kind) (rs : List Rec) (bs cs : List Block) → has k bs ≡ true → bare cs ≡ bare bs → lines_of (made_anew k rs cs) ≡ lines_of (made_anew k rs bs)
anew_same_lines k rs bs cs h e =
    let g : has k cs ≡ true = sym (has_same k cs) ∙ ap (has k) e ∙ has_same k bs ∙ h in
    anew_lines k rs cs g ∙ ap (λ (l : List Block). lines_of (before_kind k l ++ (bare (with_tails rs) ++ without k false (from_kind k l)))) e ∙ sym (anew_lines k rs bs h)

-- the records of a kind, without numbers
pub records_bare : (k : Kind) (bs : List Block) → records k (bare bs) ≡ map bare_rows (records k bs)
records_bare k [] = refl
records_bare k (Loose l ∷ bs) = records_bare k bs
records_bare k (Record r ∷ bs) = elim (two (same_kind r.kind k)) [ inl e ↦ rw e (ap (λ l. bare_rows r.rows ∷ l) (records_bare k bs)) | inr e ↦ rw e (records_bare k bs) ]

-- values don't look at numbers
pub value_bare : (key : List ℕ) (rows : List Row) → last_value key (bare_rows rows) ≡ last_value key rows
value_bare key [] = refl
value_bare key (r ∷ rs) = rw (value_bare key rs) refl

pub entries_bare : (rows : List Row) → entries (bare_rows rows) ≡ bare_rows (entries rows)
entries_bare [] = refl
entries_bare (r ∷ rs) = elim (two (is_entry_role r.role)) [ inl e ↦ rw e (ap (λ l. bare_row r ∷ l) (entries_bare rs)) | inr e ↦ rw e (entries_bare rs) ]
