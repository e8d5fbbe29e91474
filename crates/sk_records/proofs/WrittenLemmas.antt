-- The bytes of what is held.
use Rattle.std.proofs.Common.{◌≡◌, ℕ, ◌+◌, ◌<◌, List, [], ◌∷◌, ◌++◌, map, length, take, drop, get_or, refl, ap, sym, ◌∙◌, append_assoc, arith, length-append}
use Rattle.std.specs.List.{All}
use Rattle.std.proofs.lemmas.List.{append-nil, take-append-le, take-append-drop, length-take, drop_more}
use Rattle.std.proofs.Math.Seq.{take-append_seam, drop-append-add}
use Rattle.std.proofs.lemmas.Grind.{flat_map-append}
use Rattle.sk_text.specs.Lines.{TextLine, PlacedLine, lines_in, line_bytes, joined, IsPart}
use Rattle.sk_text.specs.LineLaws.{lines_joined}
use Rattle.sk_records.specs.declared.rows.Row as held
use Rattle.sk_records.specs.declared.items.Stretch.{Stretch}
use Rattle.sk_records.specs.declared.items.Record as held_record
use Rattle.sk_records.specs.declared.items.Item.{Item}
use Rattle.sk_records.specs.declared.items.Item.TheVariants.{Lines, Held}
use Rattle.sk_records.specs.Blocks.{Block, Loose}
use Rattle.sk_records.specs.Reading.{row_lines, block_lines}
use Rattle.sk_records.specs.Written.{lines_of, bytes_of}
use Rattle.sk_records.specs.Holding.Marks.{mark_end}
use Rattle.sk_records.specs.Holding.Held.{bytes_at, line_at, row_span, rows_at, item_blocks, blocks_at, IsWithin, RowWithin}
use Rattle.sk_records.specs.Holding.Moves.{IsPartFrom}
use Rattle.sk_records.proofs.HeldLines.{line_bytes_at}

-- what was there stays there where more is put behind it
pub kept_more : (old out more : List ℕ) → take (length old) out ≡ old → take (length old) (out ++ more) ≡ old
kept_more old out more e = take-append-le (length old) out more (omega (arith, ap length e, length-take (length old) out)) ∙ e

pub joined-append : (a b : List TextLine) → joined (a ++ b) ≡ joined a ++ joined b
joined-append a b = flat_map-append line_bytes a b

pub bytes-append : (a b : List Block) → bytes_of (a ++ b) ≡ bytes_of a ++ bytes_of b
bytes-append a b = ap joined (flat_map-append block_lines a b) ∙ joined-append (lines_of a) (lines_of b)

loose_lines : (ls : List TextLine) → lines_of (map Loose ls) ≡ ls
loose_lines [] = refl
loose_lines (l ∷ ls) = ap (λ x. l ∷ x) (loose_lines ls)

-- the bytes of a stretch
pub stretch_bytes : (text : List ℕ) (s : Stretch) → bytes_of (item_blocks text (Lines s)) ≡ bytes_at text s.start s.end
stretch_bytes text s = ap joined (loose_lines (lines_in (bytes_at text s.start s.end))) ∙ lines_joined (bytes_at text s.start s.end)

-- the bytes of a record
pub record_bytes : (text : List ℕ) (r : held_record.Record) → IsWithin text r.close → bytes_of (item_blocks text (Held r)) ≡ joined (row_lines (rows_at text r.rows.items)) ++ bytes_at text r.close.start r.close.end
record_bytes text r is =
    ap joined (append-nil (row_lines (rows_at text r.rows.items) ++ line_at text r.close ∷ []))
    ∙ joined-append (row_lines (rows_at text r.rows.items)) (line_at text r.close ∷ [])
    ∙ ap (λ x. joined (row_lines (rows_at text r.rows.items)) ++ x) (append-nil (line_bytes (line_at text r.close)) ∙ line_bytes_at text r.close is)

-- one more line of a record
pub rows_more : (text : List ℕ) (rows : List held.Row) (i : ℕ) (d : held.Row) → i < length rows → All (RowWithin text) rows → let r = get_or rows i d in
    joined (row_lines (rows_at text (drop i rows))) ≡ bytes_at text r.start (r.body_end + mark_end r.mark) ++ joined (row_lines (rows_at text (drop (i + 1) rows)))
rows_more text rows i d lt all =
    let r = get_or rows i d in
    ap (λ (rs : List held.Row). joined (row_lines (rows_at text rs))) (drop_more rows i d lt)
    ∙ ap (λ x. x ++ joined (row_lines (rows_at text (drop (i + 1) rows)))) (line_bytes_at text (row_span r) (all i d lt))

-- one more item
pub items_more : (text : List ℕ) (items : List Item) (i : ℕ) (d : Item) → i < length items → bytes_of (blocks_at text (drop i items)) ≡ bytes_of (item_blocks text (get_or items i d)) ++ bytes_of (blocks_at text (drop (i + 1) items))
items_more text items i d lt = ap (λ (xs : List Item). bytes_of (blocks_at text xs)) (drop_more items i d lt) ∙ bytes-append (item_blocks text (get_or items i d)) (blocks_at text (drop (i + 1) items))

part_from_zero : (text : List ℕ) (p : PlacedLine) → IsPart text p → IsPartFrom text 0 p
part_from_zero text p is =
    let n : 0 + p.at ≡ p.at = omega arith in
    record { within = omega (arith, is.within); bytes = rw n is.bytes; short = is.short }

-- places from the start of the text
pub parts_from_zero : (text : List ℕ) (ps : List PlacedLine) → All (IsPart text) ps → All (IsPartFrom text 0) ps
parts_from_zero text ps all = λ k d lt. part_from_zero text (get_or ps k d) (all k d lt)

-- what was there, behind two appends
pub back : (old more mid new : List ℕ) → mid ≡ old ++ more → take (length mid) new ≡ mid → take (length old) new ≡ old
back old more mid new m k =
    let whole : new ≡ (old ++ more) ++ drop (length mid) new = sym (take-append-drop (length mid) new) ∙ ap (λ x. x ++ drop (length mid) new) (k ∙ m) in
    ap (take (length old)) (whole ∙ append_assoc old more (drop (length mid) new)) ∙ take-append_seam old (more ++ drop (length mid) new)

-- places behind the start of the text
pub parts_behind : (old given new : List ℕ) (ps : List PlacedLine) → new ≡ old ++ given → All (IsPart given) ps → All (IsPartFrom new (length old)) ps
parts_behind old given new ps is all = λ k d lt. behind (get_or ps k d) (all k d lt)
  where
    behind : (p : PlacedLine) → IsPart given p → IsPartFrom new (length old) p
    behind p part = record {
      within = omega (arith, part.within, ap length is, length-append old given);
      bytes = rw (is, drop-append-add) part.bytes;
      short = part.short;
    }
