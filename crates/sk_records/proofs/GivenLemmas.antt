-- Given records, as items without numbers.
use Rattle.std.proofs.Common.{◌≡◌, ℕ, ◌+◌, ◌<◌, List, [], ◌∷◌, ◌++◌, map, length, take, drop, get_or, set, refl, ap, sym, ◌∙◌, arith, subst, Ok}
use Rattle.std.specs.List.{All}
use Rattle.std.proofs.lemmas.List.{take_more, take_more_set, drop-set-lt, drop_more}
use Rattle.std.proofs.lemmas.List.Elements.{All-set, All-cons, All-head, All-tail}
use Rattle.sk_text.specs.Lines.{TextLine, lines_in}
use Rattle.sk_records.specs.declared.rows.Row as held
use Rattle.sk_records.specs.declared.items.Record as held_record
use Rattle.sk_records.specs.declared.items.Item.{Item}
use Rattle.sk_records.specs.declared.items.Item.TheVariants.{Gone, Lines, Held}
use Rattle.sk_records.specs.Rows.{Row}
use Rattle.sk_records.specs.Blocks.{Block, Rec, Loose, Record}
use Rattle.sk_records.specs.Written.{bare_row, bare_rows, bare_rec, bare}
use Rattle.sk_records.specs.Holding.Marks.{mark_role, mark_end, number_marked, role_marked, end_marked, end_small}
use Rattle.sk_records.specs.Holding.Held.{bytes_at, row_at, rows_at, rec_at, line_at, item_blocks, blocks_at, RowWithin, ItemWithin}
use Rattle.sk_records.specs.declared.kinds.Kind.{Kind}
use Rattle.sk_records.specs.Given.{IsOneRecord, recs_read}
use Rattle.sk_records.specs.Holding.GivenHeld.{bare_held, IsBareOf, IsGivenAs, IsRecordOf}
use Rattle.sk_records.proofs.HeldLines.{blocks-append, all_right}
use Rattle.sk_records.specs.Laws.Numbers.{bare-append}

bare_row_at : (text : List ℕ) (r : held.Row) → row_at text (bare_held r) ≡ bare_row (row_at text r)
bare_row_at text r =
    let small : mark_end r.mark < 4 = end_small r.mark in
    rw (number_marked 0 (mark_role r.mark) (mark_end r.mark) small, role_marked 0 (mark_role r.mark) (mark_end r.mark) small, end_marked 0 (mark_role r.mark) (mark_end r.mark) small) refl

bare_row_within : (text : List ℕ) (r : held.Row) → RowWithin text r → RowWithin text (bare_held r)
bare_row_within text r is = rw (end_marked 0 (mark_role r.mark) (mark_end r.mark) (end_small r.mark)) is

bare_at : (text : List ℕ) (rows : List held.Row) → rows_at text (map bare_held rows) ≡ bare_rows (rows_at text rows)
bare_at text [] = refl
bare_at text (r ∷ rs) = ap (λ x. x ∷ rows_at text (map bare_held rs)) (bare_row_at text r) ∙ ap (λ l. bare_row (row_at text r) ∷ l) (bare_at text rs)

bare_within : (text : List ℕ) (rows : List held.Row) → All (RowWithin text) rows → All (RowWithin text) (map bare_held rows)
bare_within text [] all = all
bare_within text (r ∷ rs) all = All-cons (RowWithin text) (bare_held r) (map bare_held rs) (bare_row_within text r (All-head (RowWithin text) r rs all)) (bare_within text rs (All-tail (RowWithin text) r rs all))

pub bare_record : (a b : held_record.Record) → b.kind ≡ a.kind → b.rows.items ≡ map bare_held a.rows.items → b.close ≡ a.close → IsBareOf (Held a) (Held b)
bare_record a b k r c = record {
  blocks = λ text. ap (λ (x : Rec). Record x ∷ []) (same text);
  within = λ text is. record { rows = rw r (bare_within text a.rows.items is.rows); close = rw c is.close };
}
  where
    same : (text : List ℕ) → rec_at text b ≡ bare_rec (rec_at text a)
    same text = rw (k, c) (ap (λ (rows : List Row). record { kind = a.kind; rows = rows; close = line_at text a.close }) (ap (rows_at text) r ∙ bare_at text a.rows.items))

loose_bare : (ls : List TextLine) → map Loose ls ≡ bare (map Loose ls)
loose_bare [] = refl
loose_bare (l ∷ ls) = ap (λ x. Loose l ∷ x) (loose_bare ls)

pub bare_other : (x : Item) → ((r : held_record.Record) → x ≡ Held r → ⊥) → IsBareOf x x
bare_other Gone isnt = record { blocks = λ text. refl; within = λ text is. is }
bare_other (Lines s) isnt = record { blocks = λ text. loose_bare (lines_in (bytes_at text s.start s.end)); within = λ text is. is }
bare_other (Held r) isnt = absurd (isnt r refl)

module _ (old now : List Item) (i : ℕ) (x y : Item) (lt : i < length now) (is : x ≡ get_or now i x) (made : IsBareOf x y) (rest : drop i now ≡ drop i old) (lo : i < length old) where
  x_old : x ≡ get_or old i x
  x_old =
      let a : drop i now ≡ get_or now i x ∷ drop (i + 1) now = drop_more now i x lt in
      let b : drop i old ≡ get_or old i x ∷ drop (i + 1) old = drop_more old i x lo in
      let c : get_or now i x ∷ drop (i + 1) now ≡ get_or old i x ∷ drop (i + 1) old = sym a ∙ rest ∙ b in
      let d : get_or now i x ≡ get_or old i x = cc in
      is ∙ d

  pub bare_rest : drop (i + 1) (set now i y) ≡ drop (i + 1) old
  bare_rest =
      let a : drop i now ≡ get_or now i x ∷ drop (i + 1) now = drop_more now i x lt in
      let b : drop i old ≡ get_or old i x ∷ drop (i + 1) old = drop_more old i x lo in
      let c : get_or now i x ∷ drop (i + 1) now ≡ get_or old i x ∷ drop (i + 1) old = sym a ∙ rest ∙ b in
      let d : drop (i + 1) now ≡ drop (i + 1) old = cc in
      drop-set-lt (i + 1) now i y (omega arith) ∙ d

  pub bare_blocks : (text : List ℕ) → blocks_at text (take i now) ≡ bare (blocks_at text (take i old)) → blocks_at text (take (i + 1) (set now i y)) ≡ bare (blocks_at text (take (i + 1) old))
  bare_blocks text e =
      ap (blocks_at text) (take_more_set now i y lt)
      ∙ blocks-append text (take i now) (y ∷ [])
      ∙ ap (λ b. b ++ (item_blocks text y ++ [])) e
      ∙ ap (λ b. bare (blocks_at text (take i old)) ++ (b ++ [])) (made.blocks text ∙ ap (λ (z : Item). bare (item_blocks text z)) x_old)
      ∙ ap (λ b. bare (blocks_at text (take i old)) ++ b) (sym (bare-append (item_blocks text (get_or old i x)) []))
      ∙ sym (bare-append (blocks_at text (take i old)) (item_blocks text (get_or old i x) ++ []))
      ∙ ap bare (sym (blocks-append text (take i old) (get_or old i x ∷ [])))
      ∙ ap (λ (l : List Item). bare (blocks_at text l)) (sym (take_more old i x lo))

  pub bare_items : (text : List ℕ) → All (ItemWithin text) now → All (ItemWithin text) (set now i y)
  bare_items text all = All-set (ItemWithin text) now i y (made.within text (subst (ItemWithin text) (sym is) (all i x lt))) all

last_alone : (xs : List Block) (y b : Block) → xs ++ y ∷ [] ≡ b ∷ [] → y ∷ [] ≡ b ∷ []
last_alone [] y b e = e
last_alone (x ∷ []) y b e = cc
last_alone (x ∷ (z ∷ zs)) y b e = cc

-- one given record, as an item
pub record_given : (text : List ℕ) (k : Kind) (lines : List ℕ) (front : List Item) (r : held_record.Record) → IsOneRecord k lines → IsGivenAs text lines (front ++ Held r ∷ []) → All (ItemWithin text) (front ++ Held r ∷ []) → IsRecordOf text k lines (Held r)
record_given text k lines front r one ag all =
    let read : Ok ag.blocks ≡ Ok (Record one.given ∷ []) = sym ag.read ∙ one.read in
    let blocks : ag.blocks ≡ Record one.given ∷ [] = cc in
    let whole : blocks_at text front ++ Record (rec_at text r) ∷ [] ≡ Record (bare_rec one.given) ∷ [] = sym (blocks-append text front (Held r ∷ [])) ∙ ag.same ∙ ap bare blocks in
    record {
      given = bare_rec one.given;
      is = last_alone (blocks_at text front) (Record (rec_at text r)) (Record (bare_rec one.given)) whole;
      same = ap recs_read one.read;
      kind = one.kind;
      within = All-head (ItemWithin text) (Held r) [] (all_right (ItemWithin text) front (Held r ∷ []) all);
    }
