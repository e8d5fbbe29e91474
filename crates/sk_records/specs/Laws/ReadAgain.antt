-- Blocks that are written and read again are the same blocks, numbered anew.
use Rattle.std.proofs.Common.{◌≡◌, ℕ, ◌+◌, List, [], ◌∷◌, ◌++◌, refl, ap, sym, ◌∙◌, true, false, Bool, inl, inr, append_assoc, Some, Ok}
use Rattle.std.proofs.lemmas.List.{append-nil}
use Rattle.sk_text.specs.Lines.{TextLine, lines_in}
use Rattle.sk_text.specs.LineLaws.{lines_again}
use Rattle.sk_records.specs.declared.kinds.Kind.{Kind}
use Rattle.sk_records.specs.declared.kinds.Kind.TheVariants.{Group, Param, Request, Entity, Constraint, Style}
use Rattle.sk_records.specs.Kinds.{same_kind}
use Rattle.sk_records.specs.Rows.{Row, Role, Plain, Brace, Entry}
use Rattle.sk_records.specs.Blocks.{Block, Loose, Record}
use Rattle.sk_records.specs.Classes.{LineClass, Empty, Value, Opens, Closes, Surface, Unknown, class_of, is_shut}
use Rattle.sk_records.specs.Reading.{State, Outside, Inside, Within, Step, Goes, Gives, row_at, outside, inside, step, with_block, onward, read_from, read_lines, row_lines, block_lines}
use Rattle.sk_records.specs.Written.{lines_of, bytes_of, is_inner, opens_list, fits, within_then, Fit, Opened, is_loose, IsBlock, AreBlocks, HasHeader, IsText, numbered_row, numbered_rows, past_rows, numbered_block, past_block, numbered}
use Rattle.sk_records.specs.Laws.MadeAnew.{two}

-- the state in a record, or within a list of it
abbrev state : Kind → ℕ → Bool → ℕ → List Row → State
state k first false at rows = Inside k first rows
state k first true at rows = Within k first at rows

inside_plain : (n : ℕ) (k : Kind) (first : ℕ) (rows : List Row) (l : TextLine) (c : LineClass) → is_inner k c ≡ true → inside n k first rows l c ≡ Goes (Inside k first (rows ++ (row_at n Plain l ∷ [])))
inside_plain n k first rows l Empty e = refl
inside_plain n k first rows l (Value j) e = rw e refl
inside_plain n k first rows l Opens e = cc
inside_plain n k first rows l (Closes j) e = cc
inside_plain n k first rows l Surface e = cc
inside_plain n k first rows l Unknown e = cc

inside_opens : (n : ℕ) (k : Kind) (first : ℕ) (rows : List Row) (l : TextLine) (c : LineClass) → opens_list k c ≡ true → inside n k first rows l c ≡ Goes (Within k first n (rows ++ (row_at n Brace l ∷ [])))
inside_opens n k first rows l Empty e = cc
inside_opens n k first rows l (Value j) e = cc
inside_opens n k first rows l Opens e = rw e refl
inside_opens n k first rows l (Closes j) e = cc
inside_opens n k first rows l Surface e = cc
inside_opens n k first rows l Unknown e = cc

-- one line that fits
step_fits : (n : ℕ) (k : Kind) (first : ℕ) (t : Bool) (at : ℕ) (done : List Row) (role : Role) (body ending : List ℕ) → fits k t role body ≡ true → (at' : ℕ) × (step n (state k first t at done) (record { body = body; ending = ending }) ≡ Goes (state k first (within_then t role) at' (done ++ (record { number = Some n; role = role; body = body; ending = ending } ∷ []))))
step_fits n k first false at done Plain body ending e = (at, inside_plain n k first done _ (class_of body) e)
step_fits n k first false at done Brace body ending e = (n, inside_opens n k first done _ (class_of body) e)
step_fits n k first false at done Entry body ending e = cc
step_fits n k first true at done Plain body ending e = cc
step_fits n k first true at done Brace body ending e = (at, rw e refl)
step_fits n k first true at done Entry body ending e = elim (two (is_shut body)) [
  | inl f ↦ (let g = rw f at e in cc g)
  | inr f ↦ (at, rw (f, rw f at e) refl)
]

-- the lines of a record, one after the other
reads_rows : (n : ℕ) (k : Kind) (first : ℕ) (t : Bool) (at : ℕ) (done rows : List Row) (rest : List TextLine) → Fit k t rows → read_from n (state k first t at done) (row_lines rows ++ rest) ≡ read_from (past_rows n rows) (Inside k first (done ++ numbered_rows n rows)) rest
reads_rows n k first false at done [] rest fit = ap (λ l. read_from n (Inside k first l) rest) (sym (append-nil done))
reads_rows n k first true at done [] rest fit = absurd fit
reads_rows n k first t at done (r ∷ rs) rest fit =
    let s = step_fits n k first t at done r.role r.body r.ending (fit_here t fit) in
    let again = reads_rows (n + 1) k first (within_then t r.role) s.0 (done ++ (numbered_row n r ∷ [])) rs rest (fit_later t fit) in
    ap (λ (x : Step). onward n x (λ (u : State). read_from (n + 1) u (row_lines rs ++ rest))) s.1
    ∙ again
    ∙ ap (λ l. read_from (past_rows (n + 1) rs) (Inside k first l) rest) (append_assoc done (numbered_row n r ∷ []) (numbered_rows (n + 1) rs))
  where
    fit_here : (t : Bool) → Fit k t (r ∷ rs) → fits k t r.role r.body ≡ true
    fit_here false f = f.0
    fit_here true f = f.0

    fit_later : (t : Bool) → Fit k t (r ∷ rs) → Fit k (within_then t r.role) rs
    fit_later false f = f.1
    fit_later true f = f.1

outside_loose : (n : ℕ) (l : TextLine) (c : LineClass) → is_loose c ≡ true → outside n l c ≡ Gives (Loose l) Outside
outside_loose n l Empty e = refl
outside_loose n l (Value j) e = cc
outside_loose n l Opens e = cc
outside_loose n l (Closes j) e = cc
outside_loose n l Surface e = refl
outside_loose n l Unknown e = cc

pub same_kind_refl : (k : Kind) → same_kind k k ≡ true
same_kind_refl Group = refl
same_kind_refl Param = refl
same_kind_refl Request = refl
same_kind_refl Entity = refl
same_kind_refl Constraint = refl
same_kind_refl Style = refl

reads_close : (n : ℕ) (k : Kind) (first : ℕ) (rows : List Row) (c : TextLine) (rest : List TextLine) → class_of c.body ≡ Closes k → read_from n (Inside k first rows) (c ∷ rest) ≡ with_block (Record (record { kind = k; rows = rows; close = c })) (read_from (n + 1) Outside rest)
reads_close n k first rows c rest is = rw (is, same_kind_refl k) refl

reads_opened : (n : ℕ) (k : Kind) (rows : List Row) (rest : List TextLine) → Opened k rows → read_from n Outside (row_lines rows ++ rest) ≡ read_from (past_rows n rows) (Inside k n (numbered_rows n rows)) rest
reads_opened n k [] rest is = absurd is
reads_opened n k (r ∷ rs) rest is = let more = reads_rows (n + 1) k n false n (numbered_row n r ∷ []) rs rest is.1 in rw (is.0.class, is.0.role) (rw is.0.role at more)

reads_block : (n : ℕ) (b : Block) (rest : List TextLine) → IsBlock b → read_from n Outside (block_lines b ++ rest) ≡ with_block (numbered_block n b) (read_from (past_block n b) Outside rest)
reads_block n (Loose l) rest is = rw (outside_loose n l (class_of l.body) is) refl
reads_block n (Record r) rest is =
    rw append_assoc (reads_opened n r.kind r.rows (r.close ∷ rest) is.0 ∙ reads_close (past_rows n r.rows) r.kind n (numbered_rows n r.rows) r.close rest is.1)

-- what is written is read again
pub reads_again : (n : ℕ) (bs : List Block) → AreBlocks bs → read_from n Outside (lines_of bs) ≡ Ok (numbered n bs)
reads_again n [] is = refl
reads_again n (b ∷ bs) is = reads_block n b (lines_of bs) is.0 ∙ ap (with_block (numbered_block n b)) (reads_again (past_block n b) bs is.1)

-- The lines of a text's blocks are read as these blocks, numbered from 1.
pub lines_read : (bs : List Block) → HasHeader bs → read_lines (lines_of bs) ≡ Ok (numbered 1 bs)
lines_read [] is = absurd is
lines_read (Loose l ∷ bs) is = rw (is.0, reads_again 2 bs is.1) refl
lines_read (Record r ∷ bs) is = absurd is

-- What is written of a text is read as the same blocks, numbered from 1.
pub text_read : (bs : List Block) → IsText bs → read_lines (lines_in (bytes_of bs)) ≡ Ok (numbered 1 bs)
text_read bs is = ap read_lines (lines_again (lines_of bs) is.lines) ∙ lines_read bs is.blocks
