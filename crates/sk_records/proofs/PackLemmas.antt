-- Lines that are put behind another text.
use Rattle.std.proofs.Common.{◌≡◌, ℕ, ◌+◌, ◌-◌, ◌<◌, ◌≤◌, List, [], ◌∷◌, ◌++◌, map, length, take, drop, get_or, refl, ap, sym, ◌∙◌, append_assoc, arith, subst, true, length-append}
use Rattle.std.specs.List.{All}
use Rattle.std.proofs.lemmas.List.{append-nil, take_at, drop_at, take_more, map-append}
use Rattle.std.proofs.lemmas.List.Elements.{All-nil, All-push}
use Rattle.sk_text.specs.Lines.{TextLine, lines_in}
use Rattle.sk_records.specs.declared.rows.Span.{Span}
use Rattle.sk_records.specs.declared.rows.Row as held
use Rattle.sk_records.specs.declared.items.Stretch.{Stretch}
use Rattle.sk_records.specs.declared.items.Record as held_record
use Rattle.sk_records.specs.declared.items.Item.{Item}
use Rattle.sk_records.specs.declared.items.Item.TheVariants.{Gone, Lines, Held}
use Rattle.sk_records.specs.Rows.{Row}
use Rattle.sk_records.specs.Blocks.{Block, Rec, Loose, Record}
use Rattle.sk_records.specs.Holding.Marks.{mark_number, mark_role, mark_end}
use Rattle.sk_records.specs.Holding.Held.{bytes_at, line_at, number_held, row_span, row_at, rows_at, item_blocks, blocks_at, IsWithin, RowWithin, ItemWithin}
use Rattle.sk_records.specs.Holding.Grown.{IsGrown}
use Rattle.sk_records.specs.Holding.Removed.{is_gone}
use Rattle.sk_records.specs.Holding.Copied.{IsMoved, AreMoved}
use Rattle.sk_records.proofs.HeldLines.{bytes_join, length_bytes, blocks-append}
use Rattle.sk_records.specs.Holding.BookHeld.{book_blocks}
use Rattle.sk_records.proofs.Growth.{line_same, rows_same, rows_grow, blocks_same, items_grow}

-- some bytes of those that were put behind a text
pub bytes_moved : (old text new : List ℕ) (a b x y n m : ℕ) → new ≡ old ++ bytes_at text a b → a ≤ x → x ≤ y → y ≤ b → b ≤ length text → n ≡ length old + (x - a) → m ≡ length old + (y - a) → bytes_at new n m ≡ bytes_at text x y
bytes_moved old text new a b x y n m is ax xy yb within en em =
    let P = bytes_at text a x in
    let Q = bytes_at text x y in
    let R = bytes_at text y b in
    let whole : new ≡ (old ++ P) ++ (Q ++ R) = is ∙ ap (λ (z : List ℕ). old ++ z) (bytes_join text a x b ax (omega arith) ∙ ap (λ (z : List ℕ). P ++ z) (bytes_join text x y b xy yb)) ∙ sym (append_assoc old P (Q ++ R)) in
    let front : length (old ++ P) ≡ n = omega (arith, en, ax, length-append old P, length_bytes text a x ax (omega arith)) in
    let len : length Q ≡ m - n = omega (arith, en, em, ax, xy, length_bytes text x y xy (omega arith)) in
    ap (λ (z : List ℕ). take (m - n) (drop n z)) whole ∙ ap (take (m - n)) (drop_at (old ++ P) (Q ++ R) n front) ∙ take_at Q R (m - n) len

module _ (old text new : List ℕ) (s : Span) (n : ℕ) (is : new ≡ old ++ bytes_at text s.start s.end) (w : IsWithin text s) (en : n ≡ length old) where
  abbrev pub moved_span : Span
  moved_span = record { start = n; body_end = n + (s.body_end - s.start); end = n + (s.end - s.start) }

  new_length : length new ≡ length old + (s.end - s.start)
  new_length = omega (arith, ap length is, length-append old (bytes_at text s.start s.end), length_bytes text s.start s.end (omega (arith, w.body, w.ending)) w.within)

  pub moved_line : line_at new moved_span ≡ line_at text s
  moved_line =
      let body : bytes_at new n (n + (s.body_end - s.start)) ≡ bytes_at text s.start s.body_end = bytes_moved old text new s.start s.end s.start s.body_end n (n + (s.body_end - s.start)) is (omega arith) w.body w.ending w.within (omega (arith, en)) (omega (arith, en)) in
      let ending : bytes_at new (n + (s.body_end - s.start)) (n + (s.end - s.start)) ≡ bytes_at text s.body_end s.end = bytes_moved old text new s.start s.end s.body_end s.end (n + (s.body_end - s.start)) (n + (s.end - s.start)) is w.body w.ending (omega arith) w.within (omega (arith, en)) (omega (arith, en)) in
      rw (body, ending) refl

  pub moved_within : IsWithin new moved_span
  moved_within = record { body = omega arith; ending = omega (arith, w.body, w.ending); short = omega (arith, w.body, w.ending, w.short); within = omega (arith, new_length, en) }

-- a line of a record
module _ (old text new : List ℕ) (r : held.Row) (n : ℕ) (is : new ≡ old ++ bytes_at text r.start (r.body_end + mark_end r.mark)) (w : RowWithin text r) (en : n ≡ length old) where
  abbrev pub moved_row : held.Row
  moved_row = record { start = n; body_end = n + (r.body_end - r.start); mark = r.mark }

  places : n + (r.body_end - r.start) + mark_end r.mark ≡ n + (r.body_end + mark_end r.mark - r.start)
  places = omega (arith, w.body)

  pub moved_row_at : row_at new moved_row ≡ row_at text r
  moved_row_at =
      ap (λ (k : ℕ). record { number = number_held (mark_number r.mark); role = mark_role r.mark; body = bytes_at new n (n + (r.body_end - r.start)); ending = bytes_at new (n + (r.body_end - r.start)) k }) places
      ∙ ap (λ (l : TextLine). record { number = number_held (mark_number r.mark); role = mark_role r.mark; body = l.body; ending = l.ending }) (moved_line old text new (row_span r) n is w en)

  pub moved_row_within : RowWithin new moved_row
  moved_row_within = subst (λ (k : ℕ). IsWithin new (record { start = n; body_end = n + (r.body_end - r.start); end = k })) (sym places) (moved_within old text new (row_span r) n is w en)

-- one more line
module _ (text old new : List ℕ) (rows : List held.Row) (i : ℕ) (made : List held.Row) (d x : held.Row) (lt : i < length rows) (g : IsGrown old new) (row : row_at new x ≡ row_at text (get_or rows i d)) where
  pub rows_packed : All (RowWithin old) made → rows_at old made ≡ rows_at text (take i rows) → rows_at new (made ++ x ∷ []) ≡ rows_at text (take (i + 1) rows)
  rows_packed all so =
      map-append (row_at new) made (x ∷ [])
      ∙ ap (λ (l : List Row). l ++ row_at new x ∷ []) (rows_same old new made g all ∙ so)
      ∙ ap (λ (y : Row). rows_at text (take i rows) ++ y ∷ []) row
      ∙ sym (map-append (row_at text) (take i rows) (get_or rows i d ∷ []))
      ∙ ap (rows_at text) (sym (take_more rows i d lt))

  pub rows_packed_within : All (RowWithin old) made → RowWithin new x → All (RowWithin new) (made ++ x ∷ [])
  rows_packed_within all w = All-push (RowWithin new) made x (rows_grow old new made g all) w

-- lines between records
pub stretch_moved : (old text new : List ℕ) (s : Stretch) (n m : ℕ) → new ≡ old ++ bytes_at text s.start s.end → ItemWithin text (Lines s) → n ≡ length old → m ≡ length new → IsMoved text new (Lines s) (Lines (record { start = n; end = m }))
stretch_moved old text new s n m is w en em =
    let len : length new ≡ length old + (s.end - s.start) = omega (arith, ap length is, length-append old (bytes_at text s.start s.end), length_bytes text s.start s.end (omega (arith, w.some)) w.within) in
    record {
      blocks = ap (λ (b : List ℕ). map Loose (lines_in b)) (bytes_moved old text new s.start s.end s.start s.end n m is (omega arith) (omega (arith, w.some)) (omega arith) w.within (omega (arith, en)) (omega (arith, em, len, w.some)));
      within = record { some = omega (arith, w.some, en, em, len); within = omega (arith, em) };
    }

-- a record
pub record_moved : (text mid new : List ℕ) (r x : held_record.Record) → ItemWithin text (Held r) → x.kind ≡ r.kind → rows_at mid x.rows.items ≡ rows_at text r.rows.items → All (RowWithin mid) x.rows.items → line_at new x.close ≡ line_at text r.close → IsWithin new x.close → IsGrown mid new → IsMoved text new (Held r) (Held x)
record_moved text mid new r x w kind rows all close close_within g = record {
  blocks = ap (λ (y : Rec). Record y ∷ []) (rw (kind, close) (ap (λ (l : List Row). record { kind = r.kind; rows = l; close = line_at text r.close }) (rows_same mid new x.rows.items g all ∙ rows)));
  within = record { rows = rows_grow mid new x.rows.items g all; close = close_within };
}

-- ---- items

gone_none : (text : List ℕ) (x : Item) → is_gone x ≡ true → item_blocks text x ≡ []
gone_none text Gone g = refl
gone_none text (Lines s) g = cc
gone_none text (Held r) g = cc

pub moved_none : (text new : List ℕ) → AreMoved text new [] []
moved_none text new = record { blocks = refl; within = All-nil (ItemWithin new) }

pub moved_pushed : (text old new : List ℕ) (items out : List Item) (x y : Item) → AreMoved text old items out → IsGrown old new → IsMoved text new x y → AreMoved text new (items ++ x ∷ []) (out ++ y ∷ [])
moved_pushed text old new items out x y are g is = record {
  blocks = blocks-append new out (y ∷ [])
      ∙ ap (λ (b : List Block). b ++ (item_blocks new y ++ [])) (blocks_same old new out g are.within ∙ are.blocks)
      ∙ ap (λ (b : List Block). blocks_at text items ++ (b ++ [])) is.blocks
      ∙ sym (blocks-append text items (x ∷ []));
  within = All-push (ItemWithin new) out y (items_grow old new out g are.within) is.within;
}

pub moved_passed : (text new : List ℕ) (items out : List Item) (x : Item) → AreMoved text new items out → is_gone x ≡ true → AreMoved text new (items ++ x ∷ []) out
moved_passed text new items out x are e = record {
  blocks = are.blocks ∙ sym (append-nil (blocks_at text items)) ∙ ap (λ (b : List Block). blocks_at text items ++ (b ++ [])) (sym (gone_none text x e)) ∙ sym (blocks-append text items (x ∷ []));
  within = are.within;
}

-- a book with its lines in another text
pub book_moved : (old mid new : List ℕ) (header line : Span) (items out : List Item) → line_at mid line ≡ line_at old header → IsWithin mid line → IsGrown mid new → AreMoved old new items out → book_blocks new line out ≡ book_blocks old header items
book_moved old mid new header line items out e w g are =
    ap (λ (l : TextLine). Loose l ∷ blocks_at new out) (line_same mid new line g w ∙ e) ∙ ap (λ (bs : List Block). Loose (line_at old header) ∷ bs) are.blocks
