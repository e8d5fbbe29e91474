-- Records that are put one behind the other.
use Rattle.std.proofs.Common.{◌≡◌, ℕ, ◌+◌, ◌<◌, List, [], ◌∷◌, ◌++◌, map, length, take, drop, get_or, set, true, false, refl, ap, sym, ◌∙◌, subst, arith, Vec, append-nil}
use Rattle.std.proofs.lemmas.List.{take_more, take_all, take-append-drop, drop_more, drop-set-lt}
use Rattle.sk_text.specs.Lines.{TextLine, lines_in}
use Rattle.sk_records.specs.declared.kinds.Kind.{Kind}
use Rattle.sk_records.specs.declared.rows.Span.{Span}
use Rattle.sk_records.specs.declared.items.Stretch.{Stretch}
use Rattle.sk_records.specs.declared.items.Item.{Item}
use Rattle.sk_records.specs.declared.items.Item.TheVariants.{Gone, Lines, Held}
use Rattle.sk_records.specs.Blocks.{Block, Rec, Loose, Record, AllOf, feed_line, add_records}
use Rattle.sk_records.specs.Given.{recs_of, recs_read, given_records, AreRecords}
use Rattle.sk_records.specs.Holding.GivenHeld.{IsGivenAs}
use Rattle.sk_records.specs.Holding.Held.{bytes_at, rec_at, item_blocks, blocks_at, IsWithin, ItemWithin}
use Rattle.sk_records.specs.Holding.Places.{holds}
use Rattle.sk_records.specs.Holding.BookHeld.{book_blocks, IsHeld}
use Rattle.sk_records.specs.Holding.Grown.{IsGrown}
use Rattle.sk_records.specs.Holding.Ready.{IsNew, IsPut, AreAdded}
use Rattle.sk_records.specs.Laws.Added.{added_joined}
use Rattle.sk_records.specs.Laws.TextKept.{given_with_tails}
use Rattle.sk_records.proofs.HeldLines.{blocks-append}
use Rattle.sk_records.proofs.Growth.{item_same, item_grows, book_same, items_grow}

loose_recs : (ls : List TextLine) → recs_of (map Loose ls) ≡ []
loose_recs [] = refl
loose_recs (l ∷ ls) = loose_recs ls

-- an item that is no record of the kind gives no records
pub no_recs : (text : List ℕ) (k : Kind) (x : Item) → holds k x ≡ false → AllOf k (recs_of (item_blocks text x)) → recs_of (item_blocks text x) ≡ []
no_recs text k Gone e all = refl
no_recs text k (Lines s) e all = loose_recs (lines_in (bytes_at text s.start s.end))
no_recs text k (Held r) e all = (let no : true ≡ false = sym all.0 ∙ e in cc no)

-- nothing is put
pub none_added : {A : Type 0} (text : List ℕ) (k : Kind) (x : Item) (header : Span) (items : List Item) (places : List (Vec ℕ A)) → IsWithin text header → IsHeld text items places → holds k x ≡ false → AllOf k (recs_of (item_blocks text x)) → AreAdded text text k (recs_of (item_blocks text x)) header header items items places
none_added text k x header items places first held e all = record {
  book = sym (ap (λ (rs : List Rec). add_records k rs (book_blocks text header items)) (no_recs text k x e all));
  first = first;
  held = held;
}

module _ (old mid : List ℕ) (k : Kind) (x : Item) (t : Stretch) (g : IsGrown old mid) (within : ItemWithin old x) where
  -- a record of the kind, and its tail
  pub new_item : holds k x ≡ true → item_blocks mid (Lines t) ≡ Loose feed_line ∷ [] → ItemWithin mid (Lines t) → IsNew mid k x t
  new_item e tail tail_within = by_item x within e
    where
      by_item : (x : Item) → ItemWithin old x → holds k x ≡ true → IsNew mid k x t
      by_item Gone w e = cc
      by_item (Lines s) w e = cc
      by_item (Held r) w e = record { given = rec_at mid r; is = refl; kind = e; within = item_grows old mid (Held r) g w; tail = tail; tail_within = tail_within }

  pub item_recs : (given : Rec) → item_blocks mid x ≡ Record given ∷ [] → recs_of (item_blocks old x) ≡ given ∷ []
  item_recs given e = ap recs_of (sym (item_same old mid x g within) ∙ e)

-- the record was put
pub item_added : {A : Type 0} (old mid new : List ℕ) (k : Kind) (x : Item) (t : Stretch) (header header2 : Span) (items items1 items2 : List Item) (places2 : List (Vec ℕ A)) → IsGrown old mid → ItemWithin old x → IsNew mid k x t → book_blocks mid header items1 ≡ book_blocks old header items →
    IsPut mid new k x header header2 items1 items2 places2 → AreAdded old new k (recs_of (item_blocks old x)) header header2 items items2 places2
item_added old mid new k x t header header2 items items1 items2 places2 g within is same put = record {
  book = put.book is.given is.is
      ∙ ap (add_records k (is.given ∷ [])) same
      ∙ ap (λ (rs : List Rec). add_records k rs (book_blocks old header items)) (sym (item_recs old mid k x t g within is.given is.is));
  first = put.first;
  held = put.held;
}

-- ---- records of several items

recs-append : (a b : List Block) → recs_of (a ++ b) ≡ recs_of a ++ recs_of b
recs-append [] b = refl
recs-append (Loose l ∷ a) b = recs-append a b
recs-append (Record r ∷ a) b = ap (λ (l : List Rec). r ∷ l) (recs-append a b)

of_kind_left : (k : Kind) (a b : List Rec) → AllOf k (a ++ b) → AllOf k a
of_kind_left k [] b all = tt
of_kind_left k (r ∷ a) b all = (all.0, of_kind_left k a b all.1)

of_kind_right : (k : Kind) (a b : List Rec) → AllOf k (a ++ b) → AllOf k b
of_kind_right k [] b all = all
of_kind_right k (r ∷ a) b all = of_kind_right k a b all.1

module _ (text : List ℕ) (k : Kind) (items : List Item) (i : ℕ) (x : Item) (lt : i < length items) (is : x ≡ get_or items i x) (all : AllOf k (recs_of (blocks_at text items))) where
  recs_more : recs_of (blocks_at text (take (i + 1) items)) ≡ recs_of (blocks_at text (take i items)) ++ recs_of (item_blocks text x)
  recs_more =
      ap (λ (l : List Item). recs_of (blocks_at text l)) (take_more items i x lt ∙ ap (λ (y : Item). take i items ++ y ∷ []) (sym is))
      ∙ ap recs_of (blocks-append text (take i items) (x ∷ []))
      ∙ recs-append (blocks_at text (take i items)) (item_blocks text x ++ [])
      ∙ ap (λ (b : List Block). recs_of (blocks_at text (take i items)) ++ recs_of b) (append-nil (item_blocks text x))

  recs_split : (n : ℕ) → recs_of (blocks_at text items) ≡ recs_of (blocks_at text (take n items)) ++ recs_of (blocks_at text (drop n items))
  recs_split n =
      ap (λ (l : List Item). recs_of (blocks_at text l)) (sym (take_drop n items))
      ∙ ap recs_of (blocks-append text (take n items) (drop n items))
      ∙ recs-append (blocks_at text (take n items)) (blocks_at text (drop n items))
    where
      take_drop : (n : ℕ) (l : List Item) → take n l ++ drop n l ≡ l
      take_drop n l = take-append-drop n l

  front_of_kind : AllOf k (recs_of (blocks_at text (take (i + 1) items)))
  front_of_kind = of_kind_left k (recs_of (blocks_at text (take (i + 1) items))) (recs_of (blocks_at text (drop (i + 1) items))) (subst (AllOf k) (recs_split (i + 1)) all)

  pub item_of_kind : AllOf k (recs_of (item_blocks text x))
  item_of_kind = of_kind_right k (recs_of (blocks_at text (take i items))) (recs_of (item_blocks text x)) (subst (AllOf k) recs_more front_of_kind)

  pub done_of_kind : AllOf k (recs_of (blocks_at text (take i items)))
  done_of_kind = of_kind_left k (recs_of (blocks_at text (take i items))) (recs_of (item_blocks text x)) (subst (AllOf k) recs_more front_of_kind)

  -- one more was put
  pub added_more : (now then before : List Block) → now ≡ add_records k (recs_of (blocks_at text (take i items))) before → then ≡ add_records k (recs_of (item_blocks text x)) now → then ≡ add_records k (recs_of (blocks_at text (take (i + 1) items))) before
  added_more now then before e f =
      f ∙ ap (add_records k (recs_of (item_blocks text x))) e
      ∙ added_joined k (recs_of (blocks_at text (take i items))) (recs_of (item_blocks text x)) before done_of_kind item_of_kind
      ∙ ap (λ (rs : List Rec). add_records k rs before) (sym recs_more)

-- the next item, while those before have been taken out
pub next_item : (first now : List Item) (i : ℕ) (x : Item) → i < length first → length now ≡ length first → drop i now ≡ drop i first → x ≡ get_or now i x → x ≡ get_or first i x
next_item first now i x lt len rest is =
    let a : drop i now ≡ get_or now i x ∷ drop (i + 1) now = drop_more now i x (omega (arith, len)) in
    let b : drop i first ≡ get_or first i x ∷ drop (i + 1) first = drop_more first i x lt in
    let c : get_or now i x ∷ drop (i + 1) now ≡ get_or first i x ∷ drop (i + 1) first = sym a ∙ rest ∙ b in
    let d : get_or now i x ≡ get_or first i x = cc in
    is ∙ d

pub rest_after : (first now : List Item) (i : ℕ) (y : Item) → i < length first → length now ≡ length first → drop i now ≡ drop i first → drop (i + 1) (set now i y) ≡ drop (i + 1) first
rest_after first now i y lt len rest =
    let a : drop i now ≡ get_or now i y ∷ drop (i + 1) now = drop_more now i y (omega (arith, len)) in
    let b : drop i first ≡ get_or first i y ∷ drop (i + 1) first = drop_more first i y lt in
    let c : get_or now i y ∷ drop (i + 1) now ≡ get_or first i y ∷ drop (i + 1) first = sym a ∙ rest ∙ b in
    let d : drop (i + 1) now ≡ drop (i + 1) first = cc in
    drop-set-lt (i + 1) now i y (omega arith) ∙ d

-- given records, as items
pub given_recs : (text lines : List ℕ) (items : List Item) → IsGivenAs text lines items → recs_of (blocks_at text items) ≡ given_records lines
given_recs text lines items is = ap recs_of is.same ∙ ap recs_read (sym is.read)

pub given_of_kind : (k : Kind) (text lines : List ℕ) (items : List Item) → IsGivenAs text lines items → AreRecords k lines → AllOf k (recs_of (blocks_at text items))
given_of_kind k text lines items is are = subst (AllOf k) (sym (given_recs text lines items is)) (given_with_tails k lines are).kind

-- all were put
pub all_added : {A : Type 0} (old mid new : List ℕ) (k : Kind) (lines : List ℕ) (given : List Item) (n : ℕ) (header header2 : Span) (items items2 : List Item) (places places2 : List (Vec ℕ A)) → IsGrown old mid → IsWithin old header → IsHeld old items places → IsGivenAs mid lines given → length given ≡ n → IsWithin new header2 → IsHeld new items2 places2 →
    book_blocks new header2 items2 ≡ add_records k (recs_of (blocks_at mid (take n given))) (book_blocks mid header items) → AreAdded old new k (given_records lines) header header2 items items2 places2
all_added old mid new k lines given n header header2 items items2 places places2 g first held is len first2 held2 e = record {
  book = e
      ∙ ap (λ (l : List Item). add_records k (recs_of (blocks_at mid l)) (book_blocks mid header items)) (take_all n given (omega (arith, len)))
      ∙ ap (λ (rs : List Rec). add_records k rs (book_blocks mid header items)) (given_recs mid lines given is)
      ∙ ap (add_records k (given_records lines)) (book_same old mid header items g first held.within);
  first = first2;
  held = held2;
}

pub held_grows : {A : Type 0} (old new : List ℕ) (items : List Item) (places : List (Vec ℕ A)) → IsGrown old new → IsHeld old items places → IsHeld new items places
held_grows old new items places g held = record { within = items_grow old new items g held.within; index = held.index }
