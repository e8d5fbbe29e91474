-- What is held stays as it is where the text grows.
use Rattle.std.proofs.Common.{◌≡◌, ℕ, ◌+◌, ◌-◌, ◌≤◌, List, [], ◌∷◌, ◌++◌, map, length, drop, refl, ap, sym, ◌∙◌, append_assoc, arith, length-append, length-drop, get_or}
use Rattle.std.specs.List.{All}
use Rattle.std.proofs.lemmas.List.{take-append-le, drop-append-le, append-nil}
use Rattle.std.proofs.Math.Seq.{drop-append_seam, take-length}
use Rattle.std.proofs.lemmas.List.Elements.{All-head, All-tail}
use Rattle.sk_text.specs.Lines.{TextLine, lines_in}
use Rattle.sk_records.specs.declared.rows.Span.{Span}
use Rattle.sk_records.specs.declared.rows.Row as held
use Rattle.sk_records.specs.declared.items.Record as held_record
use Rattle.sk_records.specs.declared.items.Item.{Item}
use Rattle.sk_records.specs.declared.items.Item.TheVariants.{Gone, Lines, Held}
use Rattle.sk_records.specs.Rows.{Row}
use Rattle.sk_records.specs.Blocks.{Block, Rec, Loose, Record}
use Rattle.sk_records.specs.Holding.Marks.{mark_number, mark_role}
use Rattle.sk_records.specs.Holding.Held.{bytes_at, line_at, number_held, row_span, row_at, rows_at, rec_at, item_blocks, blocks_at, IsWithin, RowWithin, RecordWithin, ItemWithin}
use Rattle.sk_records.specs.Holding.BookHeld.{book_blocks}
use Rattle.sk_records.specs.Holding.Grown.{IsGrown}

pub grown_none : (text : List ℕ) → IsGrown text text
grown_none text = record { more = []; is = sym (append-nil text) }

pub grown_then : (a b c : List ℕ) → IsGrown a b → IsGrown b c → IsGrown a c
grown_then a b c f g = record { more = f.more ++ g.more; is = g.is ∙ ap (λ x. x ++ g.more) f.is ∙ append_assoc a f.more g.more }

pub grown_length : (a b : List ℕ) → IsGrown a b → length a ≤ length b
grown_length a b g = omega (arith, ap length g.is, length-append a g.more)

pub bytes_same : (old new : List ℕ) (a b : ℕ) → IsGrown old new → a ≤ b → b ≤ length old → bytes_at new a b ≡ bytes_at old a b
bytes_same old new a b g ab within =
    ap (λ t. bytes_at t a b) g.is ∙ rw (drop-append-le a old g.more (omega arith)) (take-append-le (b - a) (drop a old) g.more (omega (arith, length-drop a old)))

pub line_same : (old new : List ℕ) (s : Span) → IsGrown old new → IsWithin old s → line_at new s ≡ line_at old s
line_same old new s g is =
    let body : bytes_at new s.start s.body_end ≡ bytes_at old s.start s.body_end = bytes_same old new s.start s.body_end g is.body (omega (arith, is.ending, is.within)) in
    let ending : bytes_at new s.body_end s.end ≡ bytes_at old s.body_end s.end = bytes_same old new s.body_end s.end g is.ending is.within in
    rw (body, ending) refl

row_same : (old new : List ℕ) (r : held.Row) → IsGrown old new → RowWithin old r → row_at new r ≡ row_at old r
row_same old new r g is =
    let line : line_at new (row_span r) ≡ line_at old (row_span r) = line_same old new (row_span r) g is in
    ap (λ (l : TextLine). record { number = number_held (mark_number r.mark); role = mark_role r.mark; body = l.body; ending = l.ending }) line

pub rows_same : (old new : List ℕ) (rows : List held.Row) → IsGrown old new → All (RowWithin old) rows → rows_at new rows ≡ rows_at old rows
rows_same old new [] g is = refl
rows_same old new (r ∷ rs) g is =
    ap (λ x. x ∷ rows_at new rs) (row_same old new r g (All-head (RowWithin old) r rs is)) ∙ ap (λ x. row_at old r ∷ x) (rows_same old new rs g (All-tail (RowWithin old) r rs is))

pub rec_same : (old new : List ℕ) (r : held_record.Record) → IsGrown old new → RecordWithin old r → rec_at new r ≡ rec_at old r
rec_same old new r g is =
    ap (λ (x : List Row). record { kind = r.kind; rows = x; close = line_at new r.close }) (rows_same old new r.rows.items g is.rows)
    ∙ ap (λ (x : TextLine). record { kind = r.kind; rows = rows_at old r.rows.items; close = x }) (line_same old new r.close g is.close)

pub item_same : (old new : List ℕ) (x : Item) → IsGrown old new → ItemWithin old x → item_blocks new x ≡ item_blocks old x
item_same old new Gone g is = refl
item_same old new (Lines s) g is = ap (λ (b : List ℕ). map Loose (lines_in b)) (bytes_same old new s.start s.end g (omega (arith, is.some)) is.within)
item_same old new (Held r) g is = ap (λ (x : Rec). Record x ∷ []) (rec_same old new r g is)

pub blocks_same : (old new : List ℕ) (items : List Item) → IsGrown old new → All (ItemWithin old) items → blocks_at new items ≡ blocks_at old items
blocks_same old new [] g is = refl
blocks_same old new (x ∷ xs) g is =
    ap (λ b. b ++ blocks_at new xs) (item_same old new x g (All-head (ItemWithin old) x xs is)) ∙ ap (λ b. item_blocks old x ++ b) (blocks_same old new xs g (All-tail (ItemWithin old) x xs is))

pub book_same : (old new : List ℕ) (header : Span) (items : List Item) → IsGrown old new → IsWithin old header → All (ItemWithin old) items → book_blocks new header items ≡ book_blocks old header items
book_same old new header items g first is =
    ap (λ (l : TextLine). Loose l ∷ blocks_at new items) (line_same old new header g first) ∙ ap (λ (bs : List Block). Loose (line_at old header) ∷ bs) (blocks_same old new items g is)

pub span_grows : (old new : List ℕ) (s : Span) → IsGrown old new → IsWithin old s → IsWithin new s
span_grows old new s g is = record { body = is.body; ending = is.ending; short = is.short; within = omega (arith, is.within, grown_length old new g) }

pub rows_grow : (old new : List ℕ) (rows : List held.Row) → IsGrown old new → All (RowWithin old) rows → All (RowWithin new) rows
rows_grow old new rows g all = λ k d lt. span_grows old new (row_span (get_or rows k d)) g (all k d lt)

pub item_grows : (old new : List ℕ) (x : Item) → IsGrown old new → ItemWithin old x → ItemWithin new x
item_grows old new Gone g is = tt
item_grows old new (Lines s) g is = record { some = is.some; within = omega (arith, is.within, grown_length old new g) }
item_grows old new (Held r) g is = record { rows = rows_grow old new r.rows.items g is.rows; close = span_grows old new r.close g is.close }

pub items_grow : (old new : List ℕ) (items : List Item) → IsGrown old new → All (ItemWithin old) items → All (ItemWithin new) items
items_grow old new items g all = λ k d lt. item_grows old new (get_or items k d) g (all k d lt)

-- the bytes of what was put behind a text
pub bytes_put : (old more new : List ℕ) (a b : ℕ) → new ≡ old ++ more → a ≡ length old → b ≡ length old + length more → bytes_at new a b ≡ more
bytes_put old more new a b is ea eb =
    let n : length old + length more - length old ≡ length more = omega arith in
    rw (is, ea, eb, drop-append_seam, n) (take-length more)
