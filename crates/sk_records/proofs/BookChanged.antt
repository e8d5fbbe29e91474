-- A book one of whose records was changed.
use Rattle.std.proofs.Common.{◌≡◌, inl, inr, ℕ, zero, suc, ◌<◌, List, [], ◌∷◌, map, length, get_or, refl, ap, sym, ◌∙◌, subst, arith, Vec, Result, Ok, Err}
use Rattle.std.specs.Prelude.{OnOk, OnErr}
use Rattle.std.proofs.lemmas.List.Elements.{All-set}
use Rattle.sk_text.specs.Lines.{TextLine}
use Rattle.sk_records.specs.declared.kinds.Kind.{Kind}
use Rattle.sk_records.specs.declared.rows.Span.{Span}
use Rattle.sk_records.specs.declared.items.Item.{Item}
use Rattle.sk_records.specs.Kinds.{same_kind}
use Rattle.sk_records.specs.Rows.{Row}
use Rattle.sk_records.specs.Blocks.{Block, Loose, Record, records, with_rows, on_record}
use Rattle.sk_records.specs.Written.{IsText}
use Rattle.sk_records.specs.Holding.Held.{line_at, item_blocks, blocks_at, ItemWithin}
use Rattle.sk_records.specs.Holding.Places.{places_from, all_places}
use Rattle.sk_records.specs.Holding.BookHeld.{book_blocks, IsBook}
use Rattle.sk_records.specs.Holding.Changes.{ItemChange}
use Rattle.sk_records.specs.Laws.MadeAnew.{two}
use Rattle.sk_records.proofs.Growth.{item_same, blocks_same, items_grow, span_grows, line_same}
use Rattle.sk_records.proofs.PlacesLemmas.{length_places}
use Rattle.sk_records.proofs.ItemSet.{split_at, on_header, blocks_changed, places_kept}

pub same_rows : (bs : List Block) → bs ≡ map (with_rows (λ (rows : List Row). rows)) bs
same_rows [] = refl
same_rows (Loose l ∷ bs) = ap (λ x. Loose l ∷ x) (same_rows bs)
same_rows (Record r ∷ bs) = ap (λ x. Record r ∷ x) (same_rows bs)

same_on : (k : Kind) (i : ℕ) (bs : List Block) → on_record k i (λ (rows : List Row). rows) bs ≡ bs
same_on k i [] = refl
same_on k zero (Loose l ∷ bs) = ap (λ x. Loose l ∷ x) (same_on k zero bs)
same_on k (suc i) (Loose l ∷ bs) = ap (λ x. Loose l ∷ x) (same_on k (suc i) bs)
same_on k zero (Record r ∷ bs) = elim (two (same_kind r.kind k)) [ inl e ↦ rw e refl | inr e ↦ rw e (ap (λ x. Record r ∷ x) (same_on k zero bs)) ]
same_on k (suc i) (Record r ∷ bs) = elim (two (same_kind r.kind k)) [ inl e ↦ rw e (ap (λ x. Record r ∷ x) (same_on k i bs)) | inr e ↦ rw e (ap (λ x. Record r ∷ x) (same_on k (suc i) bs)) ]

-- a record that a book has is in the lists of places
pub in_places : (text : List ℕ) (header : Span) (items : List Item) (k : Kind) (i : ℕ) → i < length (records k (book_blocks text header items)) → i < length (places_from k 0 items)
in_places text header items k i lt = omega (arith, lt, length_places text k 0 items)

module _ {A : Type 0} (old new : List ℕ) (header : Span) (before after : List Item) (places : List (Vec ℕ A)) (k : Kind) (i at : ℕ) (f : List Row → List Row)
    (is : IsBook old header before places) (lt : i < length (places_from k 0 before)) (place : at ≡ get_or (places_from k 0 before) i 0) (below : at < length before) (change : ItemChange old new before after at f) where
  was_within : ItemWithin old change.was
  was_within = subst (ItemWithin old) (sym change.stood) (is.held.within at change.was below)

  -- the blocks of the changed book
  pub book_changed : book_blocks new header after ≡ on_record k i f (book_blocks old header before)
  book_changed =
      let split = split_at k before i lt in
      let same : item_blocks new change.now ≡ map (with_rows f) (item_blocks new change.was) = change.blocks ∙ ap (map (with_rows f)) (sym (item_same old new change.was change.grown was_within)) in
      ap (λ (l : TextLine). Loose l ∷ blocks_at new after) (line_same old new header change.grown is.first)
      ∙ ap (λ (l : List Item). Loose (line_at old header) ∷ blocks_at new l) change.items
      ∙ ap (λ (bs : List Block). Loose (line_at old header) ∷ bs) (blocks_changed new k f before i at change.was change.now (rw (← place) at split) change.stood same ∙ ap (on_record k i f) (blocks_same old new before change.grown is.held.within))
      ∙ sym (on_header k i f (line_at old header) (blocks_at old before))

  -- the changed book is a book, where its blocks are those of a text
  pub book_stays : IsText (on_record k i f (book_blocks old header before)) → IsBook new header after places
  book_stays text = record {
    first = span_grows old new header change.grown is.first;
    held = record {
      within = rw change.items (All-set (ItemWithin new) before at change.now change.within (items_grow old new before change.grown is.held.within));
      index = is.held.index ∙ sym (ap all_places change.items ∙ places_kept before at change.was change.now below change.stood change.kind);
    };
    is_text = subst IsText (sym book_changed) text;
  }

-- a book whose record stays
module _ {A : Type 0} (old new : List ℕ) (header : Span) (before after : List Item) (places : List (Vec ℕ A)) (k : Kind) (i at : ℕ)
    (is : IsBook old header before places) (lt : i < length (places_from k 0 before)) (place : at ≡ get_or (places_from k 0 before) i 0) (below : at < length before) (change : ItemChange old new before after at (λ (rows : List Row). rows)) where
  pub book_unchanged : book_blocks new header after ≡ book_blocks old header before
  book_unchanged = book_changed old new header before after places k i at (λ (rows : List Row). rows) is lt place below change ∙ same_on k i (book_blocks old header before)

  pub book_is_kept : IsBook new header after places
  book_is_kept = book_stays old new header before after places k i at (λ (rows : List Row). rows) is lt place below change (subst IsText (sym (same_on k i (book_blocks old header before))) is.is_text)

-- what holds in either outcome
pub either_way : {T E P Q X : Type 0} (r : Result T E) → OnOk r P → OnErr r Q → (P → X) → (Q → X) → X
either_way (Ok x) p q f g = f p
either_way (Err e) p q f g = g q
