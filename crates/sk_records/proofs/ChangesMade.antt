-- Changes of records that are made one after the other.
use Rattle.std.proofs.Common.{◌≡◌, ℕ, zero, suc, ◌+◌, ◌<◌, List, [], ◌∷◌, ◌++◌, map, length, drop, get_or, true, refl, ap, sym, ◌∙◌, subst, arith, Vec, length-append}
use Rattle.std.specs.List.{All}
use Rattle.std.proofs.lemmas.List.{length-map, drop_more, map-append}
use Rattle.std.proofs.Math.ListN.{get_or-map}
use Rattle.std.proofs.lemmas.List.Elements.{All-set, All-head, All-tail}
use Rattle.sk_text.specs.Lines.{TextLine, lines_in}
use Rattle.sk_records.specs.declared.kinds.Kind.{Kind}
use Rattle.sk_records.specs.declared.kinds.Kind.TheVariants.{Group}
use Rattle.sk_records.specs.declared.rows.Span.{Span}
use Rattle.sk_records.specs.declared.items.Item.{Item}
use Rattle.sk_records.specs.declared.change_list.Edit.{Edit}
use Rattle.sk_records.specs.declared.change_list.Edit.TheVariants.{Value, Map}
use Rattle.sk_records.specs.Rows.{Row}
use Rattle.sk_records.specs.Blocks.{Block, Loose, records, with_rows, on_record, changed_at, add_records}
use Rattle.sk_records.specs.ChangeLists.{Change, SetValue, SetMap, change_place, change_rows, all_changed}
use Rattle.sk_records.specs.Holding.ChangesHeld.{change_of, edit_place, EditFits, Exists, IsChanged}
use Rattle.sk_records.specs.Given.{IsKey, IsValue, AllEnded, is_whole_list, given_list, given_records, AreRecords}
use Rattle.sk_records.specs.Holding.Grown.{IsGrown}
use Rattle.sk_records.specs.Written.{IsText}
use Rattle.sk_records.specs.Holding.Held.{bytes_at, line_at, item_blocks, blocks_at, IsWithin, ItemWithin}
use Rattle.sk_records.specs.Holding.Places.{places_from, all_places}
use Rattle.sk_records.specs.Holding.BookHeld.{book_blocks, IsHeld, IsBook}
use Rattle.sk_records.specs.Holding.Changes.{ItemChange}
use Rattle.sk_records.specs.Holding.Ready.{AreAdded}
use Rattle.sk_records.specs.Laws.Statements.{KeepsRows}
use Rattle.sk_records.specs.Laws.RecordsAfter.{changed_same}
use Rattle.sk_records.specs.Laws as laws
use Rattle.sk_records.proofs.ItemSet.{split_at, on_header, blocks_changed, places_kept}
use Rattle.sk_records.proofs.Growth.{bytes_same, bytes_put, item_same, blocks_same, items_grow, line_same}

-- a record of the items is changed where it stands
module _ {A : Type 0} (old new : List ℕ) (before after : List Item) (places : List (Vec ℕ A)) (k : Kind) (i at : ℕ) (f : List Row → List Row)
    (is : IsHeld old before places) (lt : i < length (places_from k 0 before)) (place : at ≡ get_or (places_from k 0 before) i 0) (below : at < length before) (change : ItemChange old new before after at f) where
  pub held_changed : blocks_at new after ≡ on_record k i f (blocks_at old before)
  held_changed =
      let split = split_at k before i lt in
      let was_within : ItemWithin old change.was = subst (ItemWithin old) (sym change.stood) (is.within at change.was below) in
      let same : item_blocks new change.now ≡ map (with_rows f) (item_blocks new change.was) = change.blocks ∙ ap (map (with_rows f)) (sym (item_same old new change.was change.grown was_within)) in
      ap (blocks_at new) change.items
      ∙ blocks_changed new k f before i at change.was change.now (rw (← place) at split) change.stood same
      ∙ ap (on_record k i f) (blocks_same old new before change.grown is.within)

  pub held_stays : IsHeld new after places
  held_stays = record {
    within = rw change.items (All-set (ItemWithin new) before at change.now change.within (items_grow old new before change.grown is.within));
    index = is.index ∙ sym (ap all_places change.items ∙ places_kept before at change.was change.now below change.stood change.kind);
  }

pub count_changed : {X : Type 0} (f : X → X) (i : ℕ) (xs : List X) → length (changed_at f i xs) ≡ length xs
count_changed f i [] = refl
count_changed f zero (x ∷ xs) = refl
count_changed f (suc i) (x ∷ xs) = ap suc (count_changed f i xs)

pub place_is : (bytes : List ℕ) (e : Edit) → change_place (change_of bytes e) ≡ edit_place e
place_is bytes (Value e) = refl
place_is bytes (Map e) = refl

-- how many records of the kind there are stays
pub count_stays : (k : Kind) (i : ℕ) (f : List Row → List Row) (bs cs : List Block) → cs ≡ on_record k i f bs → length (records k cs) ≡ length (records k bs)
count_stays k i f bs cs e = ap (λ (l : List Block). length (records k l)) e ∙ ap length (changed_same k i f bs) ∙ count_changed f i (records k bs)

-- the record that a change names is there
pub change_exists : (k : Kind) (bytes : List ℕ) (es : List Edit) (bs cs : List Block) (i : ℕ) (d : Edit) → i < length es → length (records k cs) ≡ length (records k bs) → All (Exists k bs) (map (change_of bytes) es) → Exists k cs (change_of bytes (get_or es i d))
change_exists k bytes es bs cs i d lt n all =
    let there : Exists k bs (change_of bytes (get_or es i d)) = subst (Exists k bs) (get_or-map (change_of bytes) es i d) (all i (change_of bytes d) (omega (arith, length-map es (change_of bytes)))) in
    omega (arith, there, n)

-- one more change was made
pub done_more : (k : Kind) (bytes : List ℕ) (es : List Edit) (bs cs all : List Block) (i : ℕ) (d : Edit) → i < length es → let e = get_or es i d in cs ≡ on_record k (change_place (change_of bytes e)) (change_rows (change_of bytes e)) bs → all_changed k (map (change_of bytes) (drop i es)) bs ≡ all → all_changed k (map (change_of bytes) (drop (i + 1) es)) cs ≡ all
done_more k bytes es bs cs all i d lt made so =
    ap (all_changed k (map (change_of bytes) (drop (i + 1) es))) made
    ∙ sym (ap (λ (l : List Edit). all_changed k (map (change_of bytes) l) bs) (drop_more es i d lt))
    ∙ so

pub changed_header : (k : Kind) (cs : List Change) (l : TextLine) (bs : List Block) → all_changed k cs (Loose l ∷ bs) ≡ Loose l ∷ all_changed k cs bs
changed_header k [] l bs = refl
changed_header k (c ∷ cs) l bs = ap (all_changed k cs) (on_header k (change_place c) (change_rows c) l bs) ∙ changed_header k cs l (on_record k (change_place c) (change_rows c) bs)

-- ---- the whole

pub all_made : {A : Type 0} (old first second third : List ℕ) (k : Kind) (cs : List Change) (lines : List ℕ) (header line line2 : Span) (items next next1 next2 : List Item) (places2 : List (Vec ℕ A)) → book_blocks first line next ≡ book_blocks old header items → IsWithin first line → IsGrown first second → blocks_at second next1 ≡ all_changed k cs (blocks_at first next) →
    AreAdded second third k (given_records lines) line line2 next1 next2 places2 → IsChanged old third k cs lines header line2 items next2 places2
all_made old first second third k cs lines header line line2 items next next1 next2 places2 same within g e added = record {
  book = added.book ∙ ap (add_records k (given_records lines)) (
      ap (λ (bs : List Block). Loose (line_at second line) ∷ bs) e
      ∙ ap (λ (l : TextLine). Loose l ∷ all_changed k cs (blocks_at first next)) (line_same first second line g within)
      ∙ sym (changed_header k cs (line_at first line) (blocks_at first next))
      ∙ ap (all_changed k cs) same);
  first = added.first;
  held = added.held;
}

edit_keeps : (k : Kind) (bytes : List ℕ) (e : Edit) → EditFits k bytes e → KeepsRows k (change_rows (change_of bytes e))
edit_keeps k bytes (Value e) fits = laws.texts_law.value_keeps k (bytes_at bytes e.start e.middle) (bytes_at bytes e.middle e.end) fits.key fits.value
edit_keeps k bytes (Map e) fits = subst (λ (j : Kind). KeepsRows j (change_rows (change_of bytes (Map e)))) (sym fits.group) (laws.texts_law.list_keeps (bytes_at bytes e.start e.end) fits.list fits.ended)

text_changed : (k : Kind) (bytes : List ℕ) (es : List Edit) (bs : List Block) → All (EditFits k bytes) es → IsText bs → IsText (all_changed k (map (change_of bytes) es) bs)
text_changed k bytes [] bs all is = is
text_changed k bytes (e ∷ es) bs all is =
    let c = change_of bytes e in
    text_changed k bytes es (on_record k (change_place c) (change_rows c) bs) (All-tail (EditFits k bytes) e es all)
    (laws.texts_law.changed k (change_place c) (change_rows c) bs (edit_keeps k bytes e (All-head (EditFits k bytes) e es all)) is)

-- a book with changes made is a book
pub changed_book : {A : Type 0} (old new : List ℕ) (k : Kind) (bytes : List ℕ) (es : List Edit) (lines : List ℕ) (was now : Span) (items items2 : List Item) (places places2 : List (Vec ℕ A)) → IsBook old was items places → All (EditFits k bytes) es → AreRecords k lines → IsChanged old new k (map (change_of bytes) es) lines was now items items2 places2 → IsBook new now items2 places2
changed_book old new k bytes es lines was now items items2 places places2 is all are made = record {
  first = made.first;
  held = made.held;
  is_text = subst IsText (sym made.book) (laws.texts_law.added k (given_records lines) (all_changed k (map (change_of bytes) es) (book_blocks old was items)) (laws.texts_law.given_with_tails k lines are) (text_changed k bytes es (book_blocks old was items) all is.is_text));
}

-- ---- the list of changes

fits_grow : (k : Kind) (old new : List ℕ) (e : Edit) → IsGrown old new → EditFits k old e → EditFits k new e
fits_grow k old new (Value e) g fits =
    let key = bytes_same old new e.start e.middle g fits.order (omega (arith, fits.more, fits.within)) in
    let value = bytes_same old new e.middle e.end g fits.more fits.within in
    record { order = fits.order; more = fits.more; within = omega (arith, fits.within, ap length g.is, length-append old g.more); key = subst (IsKey k) (sym key) fits.key; value = subst IsValue (sym value) fits.value }
fits_grow k old new (Map e) g fits =
    let lines = bytes_same old new e.start e.end g fits.order fits.within in
    record { order = fits.order; within = omega (arith, fits.within, ap length g.is, length-append old g.more); group = fits.group; list = ap (λ (b : List ℕ). is_whole_list (lines_in b)) lines ∙ fits.list; ended = subst (λ (b : List ℕ). AllEnded (lines_in b)) (sym lines) fits.ended }

change_grows : (k : Kind) (old new : List ℕ) (e : Edit) → IsGrown old new → EditFits k old e → change_of new e ≡ change_of old e
change_grows k old new (Value e) g fits = rw (bytes_same old new e.start e.middle g fits.order (omega (arith, fits.more, fits.within)), bytes_same old new e.middle e.end g fits.more fits.within) refl
change_grows k old new (Map e) g fits = rw (bytes_same old new e.start e.end g fits.order fits.within) refl

-- what was in the list stays where more bytes stand behind
pub list_grows : (k : Kind) (old new : List ℕ) (es : List Edit) → IsGrown old new → All (EditFits k old) es → map (change_of new) es ≡ map (change_of old) es
list_grows k old new [] g all = refl
list_grows k old new (e ∷ es) g all =
    ap (λ (c : Change). c ∷ map (change_of new) es) (change_grows k old new e g (All-head (EditFits k old) e es all))
    ∙ ap (λ (cs : List Change). change_of old e ∷ cs) (list_grows k old new es g (All-tail (EditFits k old) e es all))

pub all_fit : (k : Kind) (old new : List ℕ) (es : List Edit) → IsGrown old new → All (EditFits k old) es → All (EditFits k new) es
all_fit k old new es g all = λ i d lt. fits_grow k old new (get_or es i d) g (all i d lt)

-- a change that was put behind the others
module _ (k : Kind) (old mid new key value : List ℕ) (place start middle end : ℕ) (first : mid ≡ old ++ key) (second : new ≡ mid ++ value) (es : start ≡ length old) (em : middle ≡ length mid) (ee : end ≡ length new) where
  grown_mid : IsGrown mid new
  grown_mid = record { more = value; is = second }

  mid_length : length mid ≡ length old + length key
  mid_length = omega (arith, ap length first, length-append old key)

  new_length : length new ≡ length mid + length value
  new_length = omega (arith, ap length second, length-append mid value)

  key_put : bytes_at new start middle ≡ key
  key_put = bytes_same mid new start middle grown_mid (omega (arith, es, em, mid_length)) (omega (arith, em)) ∙ bytes_put old key mid start middle first es (omega (arith, em, mid_length))

  value_put : bytes_at new middle end ≡ value
  value_put = bytes_put mid value new middle end second em (omega (arith, ee, new_length))

  abbrev pub value_edit : Edit
  value_edit = Value (record { place = place; start = start; middle = middle; end = end })

  pub value_edit_is : change_of new value_edit ≡ SetValue place key value
  value_edit_is = rw (key_put, value_put) refl

  pub value_edit_fits : IsKey k key → IsValue value → EditFits k new value_edit
  value_edit_fits is_key is_value = record {
    order = omega (arith, es, em, mid_length);
    more = omega (arith, em, ee, new_length);
    within = omega (arith, ee);
    key = subst (IsKey k) (sym key_put) is_key;
    value = subst IsValue (sym value_put) is_value;
  }

module _ (k : Kind) (old new lines : List ℕ) (place start end : ℕ) (first : new ≡ old ++ lines) (es : start ≡ length old) (ee : end ≡ length new) where
  lines_length : length new ≡ length old + length lines
  lines_length = omega (arith, ap length first, length-append old lines)

  lines_put : bytes_at new start end ≡ lines
  lines_put = bytes_put old lines new start end first es (omega (arith, ee, lines_length))

  abbrev pub map_edit : Edit
  map_edit = Map (record { place = place; start = start; end = end })

  pub map_edit_is : change_of new map_edit ≡ SetMap place (given_list lines)
  map_edit_is = rw lines_put refl

  pub map_edit_fits : k ≡ Group → is_whole_list (lines_in lines) ≡ true → AllEnded (lines_in lines) → EditFits k new map_edit
  map_edit_fits group list ended = record {
    order = omega (arith, es, ee, lines_length);
    within = omega (arith, ee);
    group = group;
    list = ap (λ (b : List ℕ). is_whole_list (lines_in b)) lines_put ∙ list;
    ended = subst (λ (b : List ℕ). AllEnded (lines_in b)) (sym lines_put) ended;
  }

-- the list with one more
pub list_more : (k : Kind) (old new : List ℕ) (es : List Edit) (e : Edit) (c : Change) → IsGrown old new → All (EditFits k old) es → change_of new e ≡ c → map (change_of new) (es ++ e ∷ []) ≡ map (change_of old) es ++ c ∷ []
list_more k old new es e c g all is = map-append (change_of new) es (e ∷ []) ∙ ap (λ (cs : List Change). cs ++ change_of new e ∷ []) (list_grows k old new es g all) ∙ ap (λ (x : Change). map (change_of old) es ++ x ∷ []) is
