-- A book from which a record went.
use Rattle.std.proofs.Common.{◌≡◌, inl, inr, ℕ, zero, suc, ◌+◌, ◌<◌, List, [], ◌∷◌, ◌++◌, length, take, drop, get_or, set, refl, ap, sym, ◌∙◌, cond, true, false, Bool, arith, subst, Vec}
use Rattle.std.specs.Prelude.{remove}
use Rattle.std.specs.List.{All}
use Rattle.std.proofs.lemmas.List.{take_at, length-map}
use Rattle.std.proofs.Math.Seq.{drop-append-add}
use Rattle.std.proofs.lemmas.List.Elements.{All-append, All-cons, All-tail}
use Rattle.sk_text.specs.Lines.{TextLine}
use Rattle.sk_records.specs.declared.kinds.Kind.{Kind}
use Rattle.sk_records.specs.declared.kinds.Kind.TheVariants.{Group, Param, Request, Entity, Constraint, Style}
use Rattle.sk_records.specs.declared.rows.Span.{Span}
use Rattle.sk_records.specs.declared.items.Item.{Item}
use Rattle.sk_records.specs.declared.items.Item.TheVariants.{Gone, Held}
use Rattle.sk_records.specs.Kinds.{same_kind, kind_place}
use Rattle.sk_records.specs.Blocks.{Block, Loose, Record, records, is_of, tail_len, dropped}
use Rattle.sk_records.specs.Written.{IsText}
use Rattle.sk_records.specs.Holding.Held.{line_at, rec_at, blocks_at, ItemWithin}
use Rattle.sk_records.specs.Holding.Places.{holds, places_from, all_places, lists_of, list_of}
use Rattle.sk_records.specs.Holding.BookHeld.{book_blocks, IsBook}
use Rattle.sk_records.specs.Holding.Removed.{shrink_first}
use Rattle.sk_records.specs.Laws.MadeAnew.{two}
use Rattle.sk_records.specs.Laws.ReadSound.{same_kinds}
use Rattle.sk_records.proofs.HeldLines.{blocks-append, all_left, all_right}
use Rattle.sk_records.proofs.PlacesLemmas.{length_places}
use Rattle.sk_records.proofs.ItemSet.{IsSplit, split_at}
use Rattle.sk_records.proofs.Blank.{blocks_shrunk, first_within, places_shrunk}
use Rattle.sk_records.specs.Laws.TextKept.{text_dropped}

pub six_lists : {A : Type 0} (vs : List (Vec ℕ A)) (items : List Item) → lists_of vs ≡ all_places items → length vs ≡ 6
six_lists {A} vs items e = sym (length-map vs (λ (v : Vec ℕ A). v.items)) ∙ ap length e

pub dropped_header : (k : Kind) (i : ℕ) (l : TextLine) (bs : List Block) → dropped k i (Loose l ∷ bs) ≡ Loose l ∷ dropped k i bs
dropped_header k zero l bs = refl
dropped_header k (suc i) l bs = refl

dropped_at : (k : Kind) (i : ℕ) (a : List Block) (b : Block) (c : List Block) → length (records k a) ≡ i → is_of k b ≡ true → dropped k i (a ++ b ∷ c) ≡ a ++ drop (tail_len c) c
dropped_at k zero [] b c n e = rw e refl
dropped_at k (suc i) [] b c n e = absurd (omega (arith, n))
dropped_at k i (Loose l ∷ a) b c n e = dropped_header k i l (a ++ b ∷ c) ∙ ap (λ x. Loose l ∷ x) (dropped_at k i a b c n e)
dropped_at k i (Record r ∷ a) b c n e = elim (two (same_kind r.kind k)) [
  | inl g ↦ (let m : suc (length (records k a)) ≡ i = rw g at n in counted i m g (λ j h. dropped_at k j a b c h e))
  | inr g ↦ (let m : length (records k a) ≡ i = rw g at n in uncounted i g (dropped_at k i a b c m e))
]
  where
    counted : (i : ℕ) → suc (length (records k a)) ≡ i → same_kind r.kind k ≡ true → ((j : ℕ) → length (records k a) ≡ j → dropped k j (a ++ b ∷ c) ≡ a ++ drop (tail_len c) c) → dropped k i (Record r ∷ (a ++ b ∷ c)) ≡ Record r ∷ (a ++ drop (tail_len c) c)
    counted zero m g go = absurd (omega (arith, m))
    counted (suc i) m g go = rw g (ap (λ x. Record r ∷ x) (go i (omega (arith, m))))

    uncounted : (i : ℕ) → same_kind r.kind k ≡ false → dropped k i (a ++ b ∷ c) ≡ a ++ drop (tail_len c) c → dropped k i (Record r ∷ (a ++ b ∷ c)) ≡ Record r ∷ (a ++ drop (tail_len c) c)
    uncounted zero g h = rw g (ap (λ x. Record r ∷ x) h)
    uncounted (suc i) g h = rw g (ap (λ x. Record r ∷ x) h)

pub places-append : (k : Kind) (j : ℕ) (a b : List Item) → places_from k j (a ++ b) ≡ places_from k j a ++ places_from k (j + length a) b
places-append k j [] b = let n : j + 0 ≡ j = omega arith in rw n refl
places-append k j (x ∷ a) b =
    let n : j + suc (length a) ≡ j + 1 + length a = omega arith in
    rw n (ap (λ (ps : List ℕ). cond (holds k x) (j ∷ ps) ps) (places-append k (j + 1) a b) ∙ out (holds k x))
  where
    out : (t : Bool) → cond t (j ∷ (places_from k (j + 1) a ++ places_from k (j + 1 + length a) b)) (places_from k (j + 1) a ++ places_from k (j + 1 + length a) b) ≡ cond t (j ∷ places_from k (j + 1) a) (places_from k (j + 1) a) ++ places_from k (j + 1 + length a) b
    out true = refl
    out false = refl

remove_seam : (xs : List ℕ) (y : ℕ) (ys : List ℕ) (n : ℕ) → length xs ≡ n → remove (xs ++ y ∷ ys) n ≡ xs ++ ys
remove_seam xs y ys n e =
    let m : suc n ≡ length xs + 1 = omega (arith, e) in
    ap (λ f. f ++ drop (suc n) (xs ++ y ∷ ys)) (take_at xs (y ∷ ys) n e) ∙ ap (λ b. xs ++ b) (ap (λ k. drop k (xs ++ y ∷ ys)) m ∙ drop-append-add xs (y ∷ ys) 1)

module _ {A : Type 0} (text : List ℕ) (header : Span) (before after : List Item) (old new : List (Vec ℕ A)) (k : Kind) (i at : ℕ)
    (is : IsBook text header before old) (lt : i < length (places_from k 0 before)) (place : at ≡ get_or (places_from k 0 before) i 0)
    (after_is : after ≡ take at before ++ Gone ∷ shrink_first text (drop (at + 1) before)) where
  split : IsSplit k before i at
  split = rw (← place) at (split_at k before i lt)

  front_is : take at before ≡ split.front
  front_is = ap (take at) split.whole ∙ take_at split.front (Held split.held ∷ split.back) at (sym split.place)

  back_is : drop (at + 1) before ≡ split.back
  back_is = ap (λ n. drop (n + 1) before) split.place ∙ ap (drop (length split.front + 1)) split.whole ∙ drop-append-add split.front (Held split.held ∷ split.back) 1

  parts : after ≡ split.front ++ Gone ∷ shrink_first text split.back
  parts = after_is ∙ ap (λ (f : List Item). f ++ Gone ∷ shrink_first text (drop (at + 1) before)) front_is ∙ ap (λ (b : List Item). split.front ++ Gone ∷ shrink_first text b) back_is

  whole_within : All (ItemWithin text) (split.front ++ Held split.held ∷ split.back)
  whole_within = subst (All (ItemWithin text)) split.whole is.held.within

  back_within : All (ItemWithin text) split.back
  back_within = All-tail (ItemWithin text) (Held split.held) split.back (all_right (ItemWithin text) split.front (Held split.held ∷ split.back) whole_within)

  blocks : blocks_at text after ≡ dropped k i (blocks_at text before)
  blocks =
      ap (blocks_at text) parts
      ∙ blocks-append text split.front (Gone ∷ shrink_first text split.back)
      ∙ ap (λ (b : List Block). blocks_at text split.front ++ b) (blocks_shrunk text split.back back_within)
      ∙ sym (dropped_at k i (blocks_at text split.front) (Record (rec_at text split.held)) (blocks_at text split.back) (split.count text) split.kind)
      ∙ ap (dropped k i) (sym (blocks-append text split.front (Held split.held ∷ split.back)) ∙ ap (blocks_at text) (sym split.whole))

  pub book_dropped : book_blocks text header after ≡ dropped k i (book_blocks text header before)
  book_dropped = ap (λ (bs : List Block). Loose (line_at text header) ∷ bs) blocks ∙ sym (dropped_header k i (line_at text header) (blocks_at text before))

  places_after : (j : Kind) → places_from j 0 after ≡ places_from j 0 split.front ++ places_from j (length split.front + 1) split.back
  places_after j =
      let n : 0 + length split.front ≡ length split.front = omega arith in
      ap (places_from j 0) parts ∙ places-append j 0 split.front (Gone ∷ shrink_first text split.back)
      ∙ rw n (ap (λ (ps : List ℕ). places_from j 0 split.front ++ ps) (places_shrunk text j (length split.front + 1) split.back))

  places_before : (j : Kind) → places_from j 0 before ≡ places_from j 0 split.front ++ cond (same_kind split.held.kind j) (length split.front ∷ places_from j (length split.front + 1) split.back) (places_from j (length split.front + 1) split.back)
  places_before j =
      let n : 0 + length split.front ≡ length split.front = omega arith in
      ap (places_from j 0) split.whole ∙ places-append j 0 split.front (Held split.held ∷ split.back) ∙ rw n refl

  others : (j : Kind) → same_kind k j ≡ false → places_from j 0 after ≡ places_from j 0 before
  others j apart =
      let no : same_kind split.held.kind j ≡ false = ap (λ (h : Kind). same_kind h j) (same_kinds split.held.kind k split.kind) ∙ apart in
      places_after j ∙ sym (places_before j ∙ rw no refl)

  same : remove (places_from k 0 before) i ≡ places_from k 0 after
  same =
      ap (λ (ps : List ℕ). remove ps i) (places_before k ∙ rw split.kind refl)
      ∙ remove_seam (places_from k 0 split.front) (length split.front) (places_from k (length split.front + 1) split.back) i (length_places [] k 0 split.front ∙ split.count [])
      ∙ sym (places_after k)

  lists_after : (k' : Kind) → k' ≡ k → set (all_places before) (kind_place k') (remove (list_of k' (all_places before)) i) ≡ all_places after
  lists_after Group e =
      let o : (j : Kind) → same_kind Group j ≡ false → places_from j 0 after ≡ places_from j 0 before = λ j h. others j (ap (λ (x : Kind). same_kind x j) (sym e) ∙ h) in
      let s : remove (places_from Group 0 before) i ≡ places_from Group 0 after = subst (λ (x : Kind). remove (places_from x 0 before) i ≡ places_from x 0 after) (sym e) same in
      rw (s, o Param refl, o Request refl, o Entity refl, o Constraint refl, o Style refl) refl
  lists_after Param e =
      let o : (j : Kind) → same_kind Param j ≡ false → places_from j 0 after ≡ places_from j 0 before = λ j h. others j (ap (λ (x : Kind). same_kind x j) (sym e) ∙ h) in
      let s : remove (places_from Param 0 before) i ≡ places_from Param 0 after = subst (λ (x : Kind). remove (places_from x 0 before) i ≡ places_from x 0 after) (sym e) same in
      rw (s, o Group refl, o Request refl, o Entity refl, o Constraint refl, o Style refl) refl
  lists_after Request e =
      let o : (j : Kind) → same_kind Request j ≡ false → places_from j 0 after ≡ places_from j 0 before = λ j h. others j (ap (λ (x : Kind). same_kind x j) (sym e) ∙ h) in
      let s : remove (places_from Request 0 before) i ≡ places_from Request 0 after = subst (λ (x : Kind). remove (places_from x 0 before) i ≡ places_from x 0 after) (sym e) same in
      rw (s, o Group refl, o Param refl, o Entity refl, o Constraint refl, o Style refl) refl
  lists_after Entity e =
      let o : (j : Kind) → same_kind Entity j ≡ false → places_from j 0 after ≡ places_from j 0 before = λ j h. others j (ap (λ (x : Kind). same_kind x j) (sym e) ∙ h) in
      let s : remove (places_from Entity 0 before) i ≡ places_from Entity 0 after = subst (λ (x : Kind). remove (places_from x 0 before) i ≡ places_from x 0 after) (sym e) same in
      rw (s, o Group refl, o Param refl, o Request refl, o Constraint refl, o Style refl) refl
  lists_after Constraint e =
      let o : (j : Kind) → same_kind Constraint j ≡ false → places_from j 0 after ≡ places_from j 0 before = λ j h. others j (ap (λ (x : Kind). same_kind x j) (sym e) ∙ h) in
      let s : remove (places_from Constraint 0 before) i ≡ places_from Constraint 0 after = subst (λ (x : Kind). remove (places_from x 0 before) i ≡ places_from x 0 after) (sym e) same in
      rw (s, o Group refl, o Param refl, o Request refl, o Entity refl, o Style refl) refl
  lists_after Style e =
      let o : (j : Kind) → same_kind Style j ≡ false → places_from j 0 after ≡ places_from j 0 before = λ j h. others j (ap (λ (x : Kind). same_kind x j) (sym e) ∙ h) in
      let s : remove (places_from Style 0 before) i ≡ places_from Style 0 after = subst (λ (x : Kind). remove (places_from x 0 before) i ≡ places_from x 0 after) (sym e) same in
      rw (s, o Group refl, o Param refl, o Request refl, o Entity refl, o Constraint refl) refl

  after_within : All (ItemWithin text) after
  after_within = rw parts (All-append (ItemWithin text) split.front (Gone ∷ shrink_first text split.back) (all_left (ItemWithin text) split.front (Held split.held ∷ split.back) whole_within) (All-cons (ItemWithin text) Gone (shrink_first text split.back) tt (first_within text split.back back_within)))

  pub dropped_stays : lists_of new ≡ set (lists_of old) (kind_place k) (remove (list_of k (lists_of old)) i) → IsBook text header after new
  dropped_stays e = record {
    first = is.first;
    held = record {
      within = after_within;
      index = e ∙ ap (λ (ls : List (List ℕ)). set ls (kind_place k) (remove (list_of k ls) i)) is.held.index ∙ lists_after k refl;
    };
    is_text = subst IsText (sym book_dropped) (text_dropped k i (book_blocks text header before) is.is_text);
  }
