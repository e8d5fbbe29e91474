-- One item is changed where it stands: what that does to the blocks and to the places.
use Rattle.std.proofs.Common.{◌≡◌, inl, inr, ℕ, zero, suc, ◌+◌, ◌-◌, ◌<◌, ◌≤◌, List, [], ◌∷◌, ◌++◌, map, length, get_or, set, refl, ap, sym, ◌∙◌, cond, true, false, arith, subst}
use Rattle.std.proofs.Math.Seq.{set-append_seam, get_or-append_seam}
use Rattle.sk_text.specs.Lines.{TextLine}
use Rattle.sk_records.specs.declared.kinds.Kind.{Kind}
use Rattle.sk_records.specs.declared.kinds.Kind.TheVariants.{Group, Param, Request, Entity, Constraint, Style}
use Rattle.sk_records.specs.declared.items.Item.{Item}
use Rattle.sk_records.specs.declared.items.Item.TheVariants.{Gone, Lines, Held}
use Rattle.sk_records.specs.declared.items.Record as held_record
use Rattle.sk_records.specs.Kinds.{same_kind}
use Rattle.sk_records.specs.Rows.{Row}
use Rattle.sk_records.specs.Blocks.{Block, Loose, Record, records, is_of, on_record, with_rows}
use Rattle.sk_records.specs.Holding.Held.{rec_at, item_blocks, blocks_at}
use Rattle.sk_records.specs.Holding.Places.{holds, places_from, all_places}
use Rattle.sk_records.specs.Laws.MadeAnew.{two}
use Rattle.sk_records.proofs.HeldLines.{blocks-append}
use Rattle.sk_records.proofs.PlacesLemmas.{records_lines}

-- the record with a place in its kind, and the items before and behind it
pub record IsSplit (k : Kind) (items : List Item) (i at : ℕ) : Type 0 where
  pub front : List Item
  pub held : held_record.Record
  pub back : List Item
  pub whole : items ≡ front ++ Held held ∷ back
  pub place : at ≡ length front
  pub kind : same_kind held.kind k ≡ true
  pub count : (text : List ℕ) → length (records k (blocks_at text front)) ≡ i

record IsSplitFrom (k : Kind) (j : ℕ) (items : List Item) (i at : ℕ) : Type 0 where
  low : j ≤ at
  here : IsSplit k items i (at - j)

split_more : (k : Kind) (j : ℕ) (x : Item) (xs : List Item) (i n at : ℕ) → ((text : List ℕ) (front : List Item) → length (records k (blocks_at text front)) ≡ i → length (records k (blocks_at text (x ∷ front))) ≡ n) → IsSplitFrom k (j + 1) xs i at → IsSplitFrom k j (x ∷ xs) n at
split_more k j x xs i n at counts is = record {
  low = omega (arith, is.low);
  here = record {
    front = x ∷ is.here.front;
    held = is.here.held;
    back = is.here.back;
    whole = ap (λ l. x ∷ l) is.here.whole;
    place = omega (arith, is.low, is.here.place);
    kind = is.here.kind;
    count = λ text. counts text is.here.front (is.here.count text);
  };
}

split_from : (k : Kind) (j : ℕ) (items : List Item) (i : ℕ) → i < length (places_from k j items) → IsSplitFrom k j items i (get_or (places_from k j items) i 0)
split_from k j [] i lt = absurd (omega arith)
split_from k j (Gone ∷ xs) i lt = split_more k j Gone xs i i _ (λ text front e. e) (split_from k (j + 1) xs i lt)
split_from k j (Lines s ∷ xs) i lt = split_more k j (Lines s) xs i i _ (λ text front e. ap length (records_lines text k s front) ∙ e) (split_from k (j + 1) xs i lt)
split_from k j (Held r ∷ xs) i lt = elim (two (same_kind r.kind k)) [
  | inl e ↦ (let f = rw e at lt in rw e (first i f e (λ n below. split_from k (j + 1) xs n below)))
  | inr e ↦ (let f = rw e at lt in rw e (split_more k j (Held r) xs i i _ (λ text front g. rw e g) (split_from k (j + 1) xs i f)))
]
  where
    first : (i : ℕ) → i < length (j ∷ places_from k (j + 1) xs) → same_kind r.kind k ≡ true → ((n : ℕ) → n < length (places_from k (j + 1) xs) → IsSplitFrom k (j + 1) xs n (get_or (places_from k (j + 1) xs) n 0)) → IsSplitFrom k j (Held r ∷ xs) i (get_or (j ∷ places_from k (j + 1) xs) i 0)
    first zero lt e go = record {
      low = omega arith;
      here = record { front = []; held = r; back = xs; whole = refl; place = omega arith; kind = e; count = λ text. refl };
    }
    first (suc i) lt e go = split_more k j (Held r) xs i (suc i) _ (λ text front g. rw e (ap suc g)) (go i (omega arith))

pub split_at : (k : Kind) (items : List Item) (i : ℕ) → i < length (places_from k 0 items) → IsSplit k items i (get_or (places_from k 0 items) i 0)
split_at k items i lt =
    let is = split_from k 0 items i lt in
    let n : get_or (places_from k 0 items) i 0 - 0 ≡ get_or (places_from k 0 items) i 0 = omega arith in
    subst (λ (m : ℕ). IsSplit k items i m) n is.here

-- ---- the blocks

pub on_header : (k : Kind) (i : ℕ) (f : List Row → List Row) (l : TextLine) (bs : List Block) → on_record k i f (Loose l ∷ bs) ≡ Loose l ∷ on_record k i f bs
on_header k zero f l bs = refl
on_header k (suc i) f l bs = refl

pub on_record_at : (k : Kind) (i : ℕ) (f : List Row → List Row) (a : List Block) (b : Block) (c : List Block) → length (records k a) ≡ i → is_of k b ≡ true → on_record k i f (a ++ b ∷ c) ≡ a ++ with_rows f b ∷ c
on_record_at k zero f [] b c n e = rw e refl
on_record_at k (suc i) f [] b c n e = absurd (omega (arith, n))
on_record_at k i f (Loose l ∷ a) b c n e = on_header k i f l (a ++ b ∷ c) ∙ ap (λ x. Loose l ∷ x) (on_record_at k i f a b c n e)
on_record_at k i f (Record r ∷ a) b c n e = elim (two (same_kind r.kind k)) [
  | inl g ↦ (let m : suc (length (records k a)) ≡ i = rw g at n in counted i m g (λ j h. on_record_at k j f a b c h e))
  | inr g ↦ (let m : length (records k a) ≡ i = rw g at n in uncounted i g (on_record_at k i f a b c m e))
]
  where
    counted : (i : ℕ) → suc (length (records k a)) ≡ i → same_kind r.kind k ≡ true → ((j : ℕ) → length (records k a) ≡ j → on_record k j f (a ++ b ∷ c) ≡ a ++ with_rows f b ∷ c) → on_record k i f (Record r ∷ (a ++ b ∷ c)) ≡ Record r ∷ (a ++ with_rows f b ∷ c)
    counted zero m g go = absurd (omega (arith, m))
    counted (suc i) m g go = rw g (ap (λ x. Record r ∷ x) (go i (omega (arith, m))))

    uncounted : (i : ℕ) → same_kind r.kind k ≡ false → on_record k i f (a ++ b ∷ c) ≡ a ++ with_rows f b ∷ c → on_record k i f (Record r ∷ (a ++ b ∷ c)) ≡ Record r ∷ (a ++ with_rows f b ∷ c)
    uncounted zero g h = rw g (ap (λ x. Record r ∷ x) h)
    uncounted (suc i) g h = rw g (ap (λ x. Record r ∷ x) h)

-- the blocks after the record with a place in its kind was changed
pub blocks_changed : (text : List ℕ) (k : Kind) (f : List Row → List Row) (items : List Item) (i at : ℕ) (o x : Item) → IsSplit k items i at → o ≡ get_or items at o → item_blocks text x ≡ map (with_rows f) (item_blocks text o) → blocks_at text (set items at x) ≡ on_record k i f (blocks_at text items)
blocks_changed text k f items i at o x is e h =
    let old : Item = Held is.held in
    let same : o ≡ old = e ∙ ap (λ n. get_or items n o) is.place ∙ ap (λ (l : List Item). get_or l (length is.front) o) is.whole ∙ get_or-append_seam is.front old is.back o in
    ap (λ n. blocks_at text (set items n x)) is.place
    ∙ ap (λ (l : List Item). blocks_at text (set l (length is.front) x)) is.whole
    ∙ ap (blocks_at text) (set-append_seam is.front old is.back x)
    ∙ blocks-append text is.front (x ∷ is.back)
    ∙ ap (λ (b : List Block). blocks_at text is.front ++ (b ++ blocks_at text is.back)) (h ∙ ap (λ (y : Item). map (with_rows f) (item_blocks text y)) same)
    ∙ sym (on_record_at k i f (blocks_at text is.front) (Record (rec_at text is.held)) (blocks_at text is.back) (is.count text) is.kind)
    ∙ ap (on_record k i f) (sym (blocks-append text is.front (old ∷ is.back)))
    ∙ ap (λ (l : List Item). on_record k i f (blocks_at text l)) (sym is.whole)

-- ---- the places

pub places_swapped : (k : Kind) (j : ℕ) (a : List Item) (x y : Item) (b : List Item) → holds k x ≡ holds k y → places_from k j (a ++ x ∷ b) ≡ places_from k j (a ++ y ∷ b)
places_swapped k j [] x y b e = ap (λ t. cond t (j ∷ places_from k (j + 1) b) (places_from k (j + 1) b)) e
places_swapped k j (z ∷ a) x y b e = ap (λ (ps : List ℕ). cond (holds k z) (j ∷ ps) ps) (places_swapped k (j + 1) a x y b e)

pub all_same : (a b : List Item) → ((k : Kind) → places_from k 0 a ≡ places_from k 0 b) → all_places a ≡ all_places b
all_same a b e = rw (e Group, e Param, e Request, e Entity, e Constraint, e Style) refl

-- the places stay where an item is changed into one of the same kind
pub places_kept : (items : List Item) (n : ℕ) (o x : Item) → n < length items → o ≡ get_or items n o → ((k : Kind) → holds k x ≡ holds k o) → all_places (set items n x) ≡ all_places items
places_kept items n o x lt e h = all_same (set items n x) items (λ k. by_place k 0 items n lt e)
  where
    by_place : (k : Kind) (j : ℕ) (items : List Item) (n : ℕ) → n < length items → o ≡ get_or items n o → places_from k j (set items n x) ≡ places_from k j items
    by_place k j [] n lt e = absurd (omega arith)
    by_place k j (y ∷ ys) zero lt e = ap (λ t. cond t (j ∷ places_from k (j + 1) ys) (places_from k (j + 1) ys)) (h k ∙ ap (holds k) e)
    by_place k j (y ∷ ys) (suc n) lt e = ap (λ (ps : List ℕ). cond (holds k y) (j ∷ ps) ps) (by_place k (j + 1) ys n (omega arith) e)
