-- A record put behind the header, a record or a tail.
use Rattle.std.proofs.Common.{◌≡◌, ℕ, zero, suc, ◌+◌, ◌<◌, List, [], ◌∷◌, ◌++◌, length, take, drop, get_or, set, refl, ap, sym, ◌∙◌, append_assoc, arith, subst, Vec, length-append, length-drop}
use Rattle.std.specs.List.{All}
use Rattle.std.proofs.lemmas.List.{take_at, drop_at, take-append-drop}
use Rattle.std.proofs.lemmas.List.Elements.{All-head, All-tail, All-set}
use Rattle.std.proofs.Math.Seq.{set-append_seam, get_or-append_seam}
use Rattle.sk_text.specs.Lines.{TextLine}
use Rattle.sk_records.specs.declared.kinds.Kind.{Kind}
use Rattle.sk_records.specs.declared.rows.Span.{Span}
use Rattle.sk_records.specs.declared.items.Stretch.{Stretch}
use Rattle.sk_records.specs.declared.items.Item.{Item}
use Rattle.sk_records.specs.declared.items.Item.TheVariants.{Lines, Held}
use Rattle.sk_records.specs.declared.items.Record as held_record
use Rattle.sk_records.specs.declared.spots.Before.{Before}
use Rattle.sk_records.specs.declared.spots.Before.TheVariants as before
use Rattle.sk_records.specs.Kinds.{kind_place}
use Rattle.sk_records.specs.Blocks.{Block, Rec, Loose, Record, new_place, feed_line, ended, ended_line, ended_last, add_records}
use Rattle.sk_records.specs.Holding.Held.{line_at, rows_at, rec_at, item_blocks, blocks_at, IsWithin, RecordWithin, ItemWithin}
use Rattle.sk_records.specs.Holding.Places.{places_from, lists_of, list_of}
use Rattle.sk_records.specs.Holding.BookHeld.{book_blocks, IsHeld, IsBook}
use Rattle.sk_records.specs.Holding.Grown.{IsGrown}
use Rattle.sk_records.specs.Holding.Inserted.{HasRoom}
use Rattle.sk_records.specs.Holding.Ready.{IsReady, IsNew, IsPut, IsKept, IsAdded, with_close, close_span}
use Rattle.sk_records.specs.Given.{IsOneRecord, given_records}
use Rattle.sk_records.specs.Holding.GivenHeld.{IsRecordOf}
use Rattle.sk_records.specs.Written.{IsText}
use Rattle.sk_records.specs.Laws.TextKept.{given_one, text_added}
use Rattle.sk_records.proofs.HeldLines.{blocks-append, all_left, all_right}
use Rattle.sk_records.proofs.Growth.{line_same, item_same, blocks_same, book_same, span_grows, item_grows, items_grow, rows_grow}
use Rattle.sk_records.proofs.ItemSet.{places_swapped}
use Rattle.sk_records.proofs.RecordPut.{put_book, put_index}

ended_snoc : (bs : List Block) (b : Block) → ended_last (bs ++ b ∷ []) ≡ bs ++ ended b ∷ []
ended_snoc [] b = refl
ended_snoc (a ∷ []) b = refl
ended_snoc (a ∷ (c ∷ cs)) b = ap (λ bs. a ∷ bs) (ended_snoc (c ∷ cs) b)

pub kept : {A : Type 0} (old new : List ℕ) (header : Span) (items : List Item) (was now : List (Vec ℕ A)) → IsGrown old new → IsWithin old header → IsHeld old items was → lists_of now ≡ lists_of was → IsKept old new header header items items now
kept old new header items was now g first held e = record {
  book = book_same old new header items g first held.within;
  first = span_grows old new header g first;
  held = record { within = items_grow old new items g held.within; index = e ∙ held.index };
}

take_short : (p : ℕ) (xs : List Item) → length (take p xs) < length xs → length (take p xs) ≡ p
take_short zero xs lt = refl
take_short (suc p) [] lt = absurd (omega arith)
take_short (suc p) (x ∷ xs) lt = ap suc (take_short p xs (omega arith))

same_given : (a b : Rec) → (x : List Block) → x ≡ Record a ∷ [] → x ≡ Record b ∷ [] → a ≡ b
same_given a b x e f = let g : Record a ∷ [] ≡ Record b ∷ [] = sym e ∙ f in cc

-- one step for the three: what is put, where the line before has an end
module _ {A : Type 0} (old new : List ℕ) (k : Kind) (header header2 : Span) (items items1 : List Item) (at : ℕ) (stands : Before) (x : Item) (t : Stretch) (was now : List (Vec ℕ A))
    (g : IsGrown old new) (first : IsWithin old header) (held : IsHeld old items was) (ready : IsReady old k items at stands) (is : IsNew old k x t)
    (index : lists_of now ≡ set (lists_of was) (kind_place k) (list_of k (lists_of was) ++ at ∷ []))
    (first2 : IsWithin new header2) (within1 : All (ItemWithin new) items1)
    (ends : Loose (line_at new header2) ∷ blocks_at new (take at items1) ≡ ended_last (Loose (line_at new header) ∷ blocks_at new (take at items)))
    (back : drop at items1 ≡ drop at items) (same_places : (j : Kind) → places_from j 0 items1 ≡ places_from j 0 items) where
  front_within : All (ItemWithin old) (take at items)
  front_within = all_left (ItemWithin old) (take at items) (drop at items) (subst (All (ItemWithin old)) (sym (take-append-drop at items)) held.within)

  same_front : blocks_at new (take at items) ≡ blocks_at old (take at items)
  same_front = blocks_same old new (take at items) g front_within

  same_book : book_blocks new header items ≡ book_blocks old header items
  same_book = book_same old new header items g first held.within

  place : suc (length (blocks_at new (take at items))) ≡ new_place k (book_blocks new header items)
  place = ap (λ (bs : List Block). suc (length bs)) same_front ∙ ready.place (line_at old header) ∙ ap (new_place k) (sym same_book)

  record_is : item_blocks new x ≡ Record is.given ∷ []
  record_is = item_same old new x g is.within ∙ is.is

  tail_is : item_blocks new (Lines t) ≡ Loose feed_line ∷ []
  tail_is = item_same old new (Lines t) g is.tail_within ∙ is.tail

  pub goes : IsPut old new k x header header2 items (set (set items1 at x) (at + 1) (Lines t)) now
  goes = record {
    book = λ given e. put_book new k header header2 items items1 at x t is.given was now ready.room place ends back same_places record_is tail_is
        ∙ ap (λ (r : Rec). add_records k (r ∷ []) (book_blocks new header items)) (same_given is.given given (item_blocks old x) is.is e)
        ∙ ap (add_records k (given ∷ [])) same_book;
    first = first2;
    held = record {
      within = All-set (ItemWithin new) (set items1 at x) (at + 1) (Lines t) (item_grows old new (Lines t) g is.tail_within) (All-set (ItemWithin new) items1 at x (item_grows old new x g is.within) within1);
      index = put_index new k header header2 items items1 at x t is.given was now ready.room place ends back same_places record_is tail_is is.kind held.index index;
    };
  }

module _ {A : Type 0} (old new : List ℕ) (k : Kind) (header : Span) (items : List Item) (at : ℕ) (x : Item) (t : Stretch) (was now : List (Vec ℕ A))
    (g : IsGrown old new) (first : IsWithin old header) (held : IsHeld old items was) (is : IsNew old k x t)
    (index : lists_of now ≡ set (lists_of was) (kind_place k) (list_of k (lists_of was) ++ at ∷ [])) where
  within_now : All (ItemWithin new) items
  within_now = items_grow old new items g held.within

  own_front : blocks_at new (take at items) ≡ blocks_at old (take at items)
  own_front = blocks_same old new (take at items) g (all_left (ItemWithin old) (take at items) (drop at items) (subst (All (ItemWithin old)) (sym (take-append-drop at items)) held.within))

  pub goes_header : (line : Span) → IsReady old k items at before.Header → line_at new line ≡ ended_line (line_at old header) → IsWithin new line → IsPut old new k x header line items (set (set items at x) (at + 1) (Lines t)) now
  goes_header line ready e first2 =
      let none : blocks_at new (take at items) ≡ [] = own_front ∙ ready.stands in
      goes old new k header line items items at before.Header x t was now g first held ready is index first2 within_now
      (ap (λ (bs : List Block). Loose (line_at new line) ∷ bs) none ∙ ap (λ (l : TextLine). Loose l ∷ []) (e ∙ ap ended_line (sym (line_same old new header g first))) ∙ ap (λ (bs : List Block). ended_last (Loose (line_at new header) ∷ bs)) (sym none))
      refl (λ j. refl)

  pub goes_tail : IsReady old k items at before.Tail → IsPut old new k x header header items (set (set items at x) (at + 1) (Lines t)) now
  goes_tail ready =
      let s = ready.stands in
      let whole : Loose (line_at new header) ∷ blocks_at new (take at items) ≡ (Loose (line_at new header) ∷ s.0) ++ Loose s.1.0 ∷ [] = ap (λ (bs : List Block). Loose (line_at new header) ∷ bs) (own_front ∙ s.1.1.0) in
      goes old new k header header items items at before.Tail x t was now g first held ready is index (span_grows old new header g first) within_now
      (whole ∙ ap (λ (l : TextLine). (Loose (line_at new header) ∷ s.0) ++ Loose l ∷ []) (sym s.1.1.1) ∙ sym (ended_snoc (Loose (line_at new header) ∷ s.0) (Loose s.1.0)) ∙ ap ended_last (sym whole))
      refl (λ j. refl)

  at_is : (p : ℕ) (mid : List Item) (y : Item) → HasRoom items at → items ≡ take p items ++ y ∷ (mid ++ drop at items) → length (take p items ++ y ∷ mid) ≡ at
  at_is p mid y room whole =
      omega (arith, ap length whole, length-append (take p items) (y ∷ (mid ++ drop at items)), length-append mid (drop at items), length-append (take p items) (y ∷ mid), length-drop at items, ap length room.gone)

  module _ (p : ℕ) (line : Span) (y v : Item) (ready : IsReady old k items at (before.Record p)) (y_is : y ≡ get_or items p y) (v_is : v ≡ get_or items p v) (e : line_at new line ≡ ended_line (line_at old (close_span v))) (line_within : IsWithin new line) where
    pub goes_behind : IsPut old new k x header header items (set (set (set items p (with_close line y)) at x) (at + 1) (Lines t)) now
    goes_behind =
        let r = ready.stands.0 in
        let mid = ready.stands.1.0 in
        let whole : items ≡ take p items ++ Held r ∷ (mid ++ drop at items) = ready.stands.1.1.0 in
        let none : blocks_at old mid ≡ [] = ready.stands.1.1.1 in
        let F = take p items in
        let D = drop at items in
        let p_is : length F ≡ p = take_short p items (omega (arith, ap length whole, length-append F (Held r ∷ (mid ++ D)))) in
        let found : (d : Item) → get_or items p d ≡ Held r = λ d. ap (λ n. get_or items n d) (sym p_is) ∙ ap (λ (l : List Item). get_or l (length F) d) whole ∙ get_or-append_seam F (Held r) (mid ++ D) d in
        let same : y ≡ Held r = y_is ∙ found y in
        let seen : v ≡ Held r = v_is ∙ found v in
        let r2 : held_record.Record = record { kind = r.kind; rows = r.rows; close = line } in
        let items1 = set items p (with_close line y) in
        let is1 : items1 ≡ F ++ Held r2 ∷ (mid ++ D) =
        ap (λ (z : Item). set items p (with_close line z)) same ∙ ap (λ n. set items n (Held r2)) (sym p_is) ∙ ap (λ (l : List Item). set l (length F) (Held r2)) whole ∙ set-append_seam F (Held r) (mid ++ D) (Held r2) in
        let n : length (F ++ Held r ∷ mid) ≡ at = at_is p mid (Held r) ready.room whole in
        let n2 : length (F ++ Held r2 ∷ mid) ≡ at = omega (arith, n, length-append F (Held r ∷ mid), length-append F (Held r2 ∷ mid)) in
        let taken : take at items ≡ F ++ Held r ∷ mid = ap (take at) (whole ∙ sym (append_assoc F (Held r ∷ mid) D)) ∙ take_at (F ++ Held r ∷ mid) D at n in
        let taken2 : take at items1 ≡ F ++ Held r2 ∷ mid = ap (take at) (is1 ∙ sym (append_assoc F (Held r2 ∷ mid) D)) ∙ take_at (F ++ Held r2 ∷ mid) D at n2 in
        let back : drop at items1 ≡ drop at items = ap (drop at) (is1 ∙ sym (append_assoc F (Held r2 ∷ mid) D)) ∙ drop_at (F ++ Held r2 ∷ mid) D at n2 in
        let all : All (ItemWithin old) (F ++ Held r ∷ (mid ++ D)) = subst (All (ItemWithin old)) whole held.within in
        let rest_all : All (ItemWithin old) (Held r ∷ (mid ++ D)) = all_right (ItemWithin old) F (Held r ∷ (mid ++ D)) all in
        let r_within : RecordWithin old r = All-head (ItemWithin old) (Held r) (mid ++ D) rest_all in
        let mid_within : All (ItemWithin old) mid = all_left (ItemWithin old) mid D (All-tail (ItemWithin old) (Held r) (mid ++ D) rest_all) in
        let none_now : blocks_at new mid ≡ [] = blocks_same old new mid g mid_within ∙ none in
        let r2_within : RecordWithin new r2 = record { rows = rows_grow old new r.rows.items g r_within.rows; close = line_within } in
        let close_is : line_at new line ≡ ended_line (line_at new r.close) = e ∙ ap (λ (z : Item). ended_line (line_at old (close_span z))) seen ∙ ap ended_line (sym (line_same old new r.close g r_within.close)) in
        let H = Loose (line_at new header) in
        let front_is : H ∷ blocks_at new (take at items) ≡ (H ∷ blocks_at new F) ++ Record (rec_at new r) ∷ [] =
        ap (λ (l : List Item). H ∷ blocks_at new l) taken ∙ ap (λ (bs : List Block). H ∷ bs) (blocks-append new F (Held r ∷ mid)) ∙ ap (λ (bs : List Block). (H ∷ blocks_at new F) ++ Record (rec_at new r) ∷ bs) none_now in
        let front2_is : H ∷ blocks_at new (take at items1) ≡ (H ∷ blocks_at new F) ++ Record (rec_at new r2) ∷ [] =
        ap (λ (l : List Item). H ∷ blocks_at new l) taken2 ∙ ap (λ (bs : List Block). H ∷ bs) (blocks-append new F (Held r2 ∷ mid)) ∙ ap (λ (bs : List Block). (H ∷ blocks_at new F) ++ Record (rec_at new r2) ∷ bs) none_now in
        let closed : Record (rec_at new r2) ≡ ended (Record (rec_at new r)) = ap (λ (l : TextLine). Record (record { kind = r.kind; rows = rows_at new r.rows.items; close = l })) close_is in
        goes old new k header header items items1 at (before.Record p) x t was now g first held ready is index (span_grows old new header g first)
        (All-set (ItemWithin new) items p (with_close line y) (rw same r2_within) within_now)
        (front2_is ∙ ap (λ (b : Block). (H ∷ blocks_at new F) ++ b ∷ []) closed ∙ sym (ended_snoc (H ∷ blocks_at new F) (Record (rec_at new r))) ∙ ap ended_last (sym front_is))
        back
        (λ j. ap (places_from j 0) is1 ∙ places_swapped j 0 F (Held r2) (Held r) (mid ++ D) refl ∙ ap (places_from j 0) (sym whole))

-- the items made ready hold the same book
module _ {A : Type 0} (old mid : List ℕ) (header : Span) (items items1 : List Item) (was : List (Vec ℕ A)) (g : IsGrown old mid) (first : IsWithin old header) (held : IsHeld old items was) (same : blocks_at mid items1 ≡ blocks_at mid items) where
  pub ready_book : book_blocks mid header items1 ≡ book_blocks old header items
  ready_book = ap (λ (bs : List Block). Loose (line_at mid header) ∷ bs) same ∙ book_same old mid header items g first held.within

  pub kept_ready : (now : List (Vec ℕ A)) → IsHeld mid items1 now → IsKept old mid header header items items1 now
  kept_ready now held1 = record { book = ready_book; first = span_grows old mid header g first; held = held1 }

  pub kept_put : (new : List ℕ) (header2 : Span) (items2 : List Item) (now : List (Vec ℕ A)) → IsKept mid new header header2 items1 items2 now → IsKept old new header header2 items items2 now
  kept_put new header2 items2 now is = record { book = is.book ∙ ready_book; first = is.first; held = is.held }

  pub added_put : (new : List ℕ) (k : Kind) (lines : List ℕ) (x : Item) (header2 : Span) (items2 : List Item) (now : List (Vec ℕ A)) (given : Rec) → item_blocks mid x ≡ Record given ∷ [] → given_records lines ≡ given ∷ [] → IsPut mid new k x header header2 items1 items2 now → IsAdded old new k lines header header2 items items2 now
  added_put new k lines x header2 items2 now given e f is = record {
    book = is.book given e ∙ ap (add_records k (given ∷ [])) ready_book ∙ ap (λ (rs : List Rec). add_records k rs (book_blocks old header items)) (sym f);
    first = is.first;
    held = is.held;
  }

-- a new record and its tail
pub new_record : (old mid : List ℕ) (k : Kind) (lines : List ℕ) (x : Item) (t : Stretch) → IsGrown old mid → IsRecordOf old k lines x → item_blocks mid (Lines t) ≡ Loose feed_line ∷ [] → ItemWithin mid (Lines t) → IsNew mid k x t
new_record old mid k lines x t g is e w = record {
  given = is.given;
  is = item_same old mid x g is.within ∙ is.is;
  kind = is.kind;
  within = item_grows old mid x g is.within;
  tail = e;
  tail_within = w;
}

-- a book to which a record was added is a book
pub added_book : {A : Type 0} (old new : List ℕ) (k : Kind) (lines : List ℕ) (was now : Span) (items items2 : List Item) (places places2 : List (Vec ℕ A)) → IsBook old was items places → IsOneRecord k lines → IsAdded old new k lines was now items items2 places2 → IsBook new now items2 places2
added_book old new k lines was now items items2 places places2 is one added =
    let given = given_one k lines one in
    record {
      first = added.first;
      held = added.held;
      is_text = subst IsText (sym added.book) (text_added k (given_records lines) (book_blocks old was items) is.is_text given.recs given.ended);
    }

pub kept_book : {A : Type 0} (old new : List ℕ) (was now : Span) (items items2 : List Item) (places places2 : List (Vec ℕ A)) → IsBook old was items places → IsKept old new was now items items2 places2 → IsBook new now items2 places2
kept_book old new was now items items2 places places2 is kept = record { first = kept.first; held = kept.held; is_text = subst IsText (sym kept.book) is.is_text }
