-- A value that is set among the lines of a record, where they stand.
use Rattle.std.proofs.Common.{◌≡◌, ℕ, suc, ◌+◌, ◌-◌, ◌<◌, List, [], ◌∷◌, ◌++◌, map, length, get_or, set, refl, ap, sym, ◌∙◌, cond, true, false, Bool, arith, Option, Some, None}
use Rattle.std.specs.Option.{option_map, option_or}
use Rattle.std.specs.List.{All}
use Rattle.std.proofs.lemmas.List.{map-set, map-append}
use Rattle.sk_text.specs.Lines.{TextLine, lines_in}
use Rattle.sk_records.specs.declared.rows.Span.{Span}
use Rattle.sk_records.specs.declared.rows.Row as held
use Rattle.sk_records.specs.declared.items.Record as held_record
use Rattle.sk_records.specs.declared.items.Item.{Item}
use Rattle.sk_records.specs.declared.items.Item.TheVariants.{Gone, Lines, Held}
use Rattle.sk_records.specs.Rows.{Row, Role, Plain, last_value, last_place, value_in, is_known, value_body, added_row, with_body, with_value}
use Rattle.sk_records.specs.Blocks.{Loose, Record, with_rows}
use Rattle.sk_records.specs.Holding.Marks.{mark_of, mark_number, mark_role, mark_end, number_marked, role_marked, end_marked}
use Rattle.sk_records.specs.Holding.Held.{bytes_at, line_at, number_held, row_of, row_at, rows_at, item_blocks, IsWithin, RowWithin, RecordWithin}
use Rattle.sk_records.specs.Holding.Grown.{IsGrown}
use Rattle.std.proofs.Math.ListN.{get_or-map}
use Rattle.sk_records.proofs.Growth.{rows_same, line_same}

known_or : (o : Option ℕ) (p x : Option (List ℕ)) → is_known p ≡ is_known o → is_known (option_or p x) ≡ is_known (option_or (option_map suc o) (cond (is_known x) (Some 0) None))
known_or None None None e = refl
known_or None None (Some v) e = refl
known_or None (Some w) x e = cc
known_or (Some i) None x e = cc
known_or (Some i) (Some w) x e = refl

place_known : (key : List ℕ) (rows : List Row) → is_known (last_value key rows) ≡ is_known (last_place key rows)
place_known key [] = refl
place_known key (r ∷ rs) = known_or (last_place key rs) (last_value key rs) (value_in key r) (place_known key rs)

pub place_below : (key : List ℕ) (rows : List Row) (i : ℕ) → last_place key rows ≡ Some i → i < length rows
place_below key [] i e = cc
place_below key (r ∷ rs) i e = by_place (last_place key rs) (is_known (value_in key r)) e (place_below key rs)
  where
    by_place : (o : Option ℕ) (t : Bool) → option_or (option_map suc o) (cond t (Some 0) None) ≡ Some i → ((j : ℕ) → o ≡ Some j → j < length rs) → i < suc (length rs)
    by_place None true e f = let q : 0 ≡ i = cc in omega (arith, q)
    by_place None false e f = cc
    by_place (Some j) t e f = let q : suc j ≡ i = cc in omega (arith, q, f j refl)

-- the line with the key is changed in its place
pub value_at_place : (key value : List ℕ) (rows : List Row) (i : ℕ) (d : Row) → last_place key rows ≡ Some i → with_value key value rows ≡ set rows i (with_body (value_body key value) (get_or rows i d))
value_at_place key value [] i d e = cc
value_at_place key value (r ∷ rs) i d e = rw (place_known key rs) (by_place (last_place key rs) (is_known (value_in key r)) e (λ j f. value_at_place key value rs j d f))
  where
    by_place : (o : Option ℕ) (t : Bool) → option_or (option_map suc o) (cond t (Some 0) None) ≡ Some i → ((j : ℕ) → o ≡ Some j → with_value key value rs ≡ set rs j (with_body (value_body key value) (get_or rs j d))) →
        cond (is_known o) (r ∷ with_value key value rs) (cond t (with_body (value_body key value) r ∷ rs) (r ∷ with_value key value rs)) ≡ set (r ∷ rs) i (with_body (value_body key value) (get_or (r ∷ rs) i d))
    by_place None true e f = let q : 0 ≡ i = cc in rw (← q) refl
    by_place None false e f = cc
    by_place (Some j) t e f = let q : suc j ≡ i = cc in rw (← q) (ap (λ l. r ∷ l) (f j refl))

-- a line is added at the end
pub value_at_end : (key value : List ℕ) (rows : List Row) → last_place key rows ≡ None → with_value key value rows ≡ rows ++ added_row Plain (value_body key value) ∷ []
value_at_end key value [] e = refl
value_at_end key value (r ∷ rs) e = rw (place_known key rs) (by_place (last_place key rs) (is_known (value_in key r)) e (λ f. value_at_end key value rs f))
  where
    by_place : (o : Option ℕ) (t : Bool) → option_or (option_map suc o) (cond t (Some 0) None) ≡ None → (o ≡ None → with_value key value rs ≡ rs ++ added_row Plain (value_body key value) ∷ []) →
        cond (is_known o) (r ∷ with_value key value rs) (cond t (with_body (value_body key value) r ∷ rs) (r ∷ with_value key value rs)) ≡ r ∷ (rs ++ added_row Plain (value_body key value) ∷ [])
    by_place None true e f = cc
    by_place None false e f = ap (λ l. r ∷ l) (f refl)
    by_place (Some j) t e f = cc

-- the number of a line that was read
pub number_read : (n : ℕ) → 0 < n → number_held n ≡ Some n
number_read n some = grind (arith, some)

-- a held line whose places are those of a line of the text
pub row_lined : (text : List ℕ) (s : Span) (role : Role) (n : ℕ) (l : TextLine) → IsWithin text s → line_at text s ≡ l → row_at text (row_of s role n) ≡ record { number = number_held n; role = role; body = l.body; ending = l.ending }
row_lined text s role n l is e =
    let len = s.end - s.body_end in
    let small : len < 4 = omega (arith, is.short) in
    let places : s.body_end + len ≡ s.end = omega (arith, is.ending) in
    rw (number_marked n role len small, role_marked n role len small, end_marked n role len small, places)
    (ap (λ (l : TextLine). record { number = number_held n; role = role; body = l.body; ending = l.ending }) e)

pub row_within : (text : List ℕ) (s : Span) (role : Role) (n : ℕ) → IsWithin text s → RowWithin text (row_of s role n)
row_within text s role n is =
    let len : mark_end (mark_of n role (s.end - s.body_end)) ≡ s.end - s.body_end = end_marked n role (s.end - s.body_end) (omega (arith, is.short)) in
    record { body = is.body; ending = omega arith; short = omega (arith, len, is.ending, is.short); within = omega (arith, len, is.ending, is.within) }

-- the held lines after a line was changed
pub rows_set : (old new : List ℕ) (rows : List held.Row) (at : ℕ) (r : held.Row) (s : Span) (key value : List ℕ) → IsGrown old new → All (RowWithin old) rows → r ≡ get_or rows at r →
    IsWithin new s → line_at new s ≡ record { body = value_body key value; ending = bytes_at old r.body_end (r.body_end + mark_end r.mark) } → last_place key (rows_at old rows) ≡ Some at →
    rows_at new (set rows at (row_of s (mark_role r.mark) (mark_number r.mark))) ≡ with_value key value (rows_at old rows)
rows_set old new rows at r s key value g all is within line place =
    let x : held.Row = row_of s (mark_role r.mark) (mark_number r.mark) in
    let here : get_or (rows_at old rows) at (row_at old r) ≡ row_at old r = get_or-map (row_at old) rows at r ∙ ap (row_at old) (sym is) in
    map-set (row_at new) rows at x
    ∙ ap (λ (l : List Row). set l at (row_at new x)) (rows_same old new rows g all)
    ∙ ap (set (rows_at old rows) at) (row_lined new s (mark_role r.mark) (mark_number r.mark) (record { body = value_body key value; ending = bytes_at old r.body_end (r.body_end + mark_end r.mark) }) within line)
    ∙ ap (λ (y : Row). set (rows_at old rows) at (with_body (value_body key value) y)) (sym here)
    ∙ sym (value_at_place key value (rows_at old rows) at (row_at old r) place)

-- the held lines after a line was added
pub rows_pushed : (old new : List ℕ) (rows : List held.Row) (s : Span) (key value : List ℕ) → IsGrown old new → All (RowWithin old) rows →
    IsWithin new s → line_at new s ≡ record { body = value_body key value; ending = 10 ∷ [] } → last_place key (rows_at old rows) ≡ None →
    rows_at new (rows ++ row_of s Plain 0 ∷ []) ≡ with_value key value (rows_at old rows)
rows_pushed old new rows s key value g all within line place =
    let x : held.Row = row_of s Plain 0 in
    map-append (row_at new) rows (x ∷ [])
    ∙ ap (λ (l : List Row). l ++ row_at new x ∷ []) (rows_same old new rows g all)
    ∙ ap (λ (y : Row). rows_at old rows ++ y ∷ []) (row_lined new s Plain 0 (record { body = value_body key value; ending = 10 ∷ [] }) within line)
    ∙ sym (value_at_end key value (rows_at old rows) place)

-- where no record stands, nothing changes
pub no_record : (text : List ℕ) (f : List Row → List Row) (x : Item) → ((r : held_record.Record) → x ≡ Held r → ⊥) → item_blocks text x ≡ map (with_rows f) (item_blocks text x)
no_record text f Gone isnt = refl
no_record text f (Lines s) isnt = all_loose (lines_in (bytes_at text s.start s.end))
  where
    all_loose : (ls : List TextLine) → map Loose ls ≡ map (with_rows f) (map Loose ls)
    all_loose [] = refl
    all_loose (l ∷ ls) = ap (λ x. Loose l ∷ x) (all_loose ls)
no_record text f (Held r) isnt = absurd (isnt r refl)

-- a record whose lines stay, in a text that has grown
pub record_kept : (old new : List ℕ) (r : held_record.Record) (rows : List held.Row) → IsGrown old new → RecordWithin old r → rows ≡ r.rows.items → Record (record { kind = r.kind; rows = rows_at new rows; close = line_at new r.close }) ∷ [] ≡ item_blocks old (Held r)
record_kept old new r rows g is e =
    ap (λ (x : List Row). Record (record { kind = r.kind; rows = x; close = line_at new r.close }) ∷ []) (ap (rows_at new) e ∙ rows_same old new r.rows.items g is.rows)
    ∙ ap (λ (x : TextLine). Record (record { kind = r.kind; rows = rows_at old r.rows.items; close = x }) ∷ []) (line_same old new r.close g is.close)

pub record_changed : (old new : List ℕ) (r : held_record.Record) (rows : List held.Row) (f : List Row → List Row) → IsGrown old new → RecordWithin old r → rows_at new rows ≡ f (rows_at old r.rows.items) → Record (record { kind = r.kind; rows = rows_at new rows; close = line_at new r.close }) ∷ [] ≡ map (with_rows f) (item_blocks old (Held r))
record_changed old new r rows f g is e =
    ap (λ (x : List Row). Record (record { kind = r.kind; rows = x; close = line_at new r.close }) ∷ []) e
    ∙ ap (λ (x : TextLine). Record (record { kind = r.kind; rows = f (rows_at old r.rows.items); close = x }) ∷ []) (line_same old new r.close g is.close)
