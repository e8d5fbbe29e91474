-- A record put where its kind goes.
use Rattle.std.proofs.Common.{◌≡◌, ℕ, suc, ◌+◌, ◌≤◌, List, [], ◌∷◌, ◌++◌, map, length, take, drop, set, refl, ap, sym, ◌∙◌, append_assoc, cond, true, false, arith, Vec, length-append, length-drop}
use Rattle.std.proofs.lemmas.List.{take_at, drop_at, take-append-drop, append-nil, length-take-le}
use Rattle.std.proofs.Math.Seq.{set-append_seam}
use Rattle.sk_text.specs.Lines.{TextLine, lines_in}
use Rattle.sk_records.specs.declared.kinds.Kind.{Kind}
use Rattle.sk_records.specs.declared.kinds.Kind.TheVariants.{Group, Param, Request, Entity, Constraint, Style}
use Rattle.sk_records.specs.declared.rows.Span.{Span}
use Rattle.sk_records.specs.declared.items.Stretch.{Stretch}
use Rattle.sk_records.specs.declared.items.Item.{Item}
use Rattle.sk_records.specs.declared.items.Item.TheVariants.{Gone, Lines, Held}
use Rattle.sk_records.specs.Kinds.{same_kind, kind_place}
use Rattle.sk_records.specs.Blocks.{Block, Rec, Loose, Record, records, with_tails, feed_line, new_place, ended_last, put_at, add_records}
use Rattle.sk_records.specs.Holding.Held.{bytes_at, line_at, rec_at, item_blocks, blocks_at}
use Rattle.sk_records.specs.Holding.Places.{holds, places_from, all_places, lists_of, list_of}
use Rattle.sk_records.specs.Holding.BookHeld.{book_blocks}
use Rattle.sk_records.specs.Holding.Inserted.{HasRoom}
use Rattle.sk_records.specs.Laws.ReadSound.{same_kinds}
use Rattle.sk_records.specs.Laws.RecordsAfter.{none_behind}
use Rattle.sk_records.proofs.HeldLines.{blocks-append}
use Rattle.sk_records.proofs.PlacesLemmas.{length_places, list_of_kind}
use Rattle.sk_records.proofs.BookDropped.{places-append}

-- the lists of places where the list of one kind is another
pub one_list : (before after : List Item) (k : Kind) (own : List ℕ) → own ≡ places_from k 0 after → ((j : Kind) → same_kind k j ≡ false → places_from j 0 after ≡ places_from j 0 before) → set (all_places before) (kind_place k) own ≡ all_places after
one_list before after Group own e o = rw (e, o Param refl, o Request refl, o Entity refl, o Constraint refl, o Style refl) refl
one_list before after Param own e o = rw (e, o Group refl, o Request refl, o Entity refl, o Constraint refl, o Style refl) refl
one_list before after Request own e o = rw (e, o Group refl, o Param refl, o Entity refl, o Constraint refl, o Style refl) refl
one_list before after Entity own e o = rw (e, o Group refl, o Param refl, o Request refl, o Constraint refl, o Style refl) refl
one_list before after Constraint own e o = rw (e, o Group refl, o Param refl, o Request refl, o Entity refl, o Style refl) refl
one_list before after Style own e o = rw (e, o Group refl, o Param refl, o Request refl, o Entity refl, o Constraint refl) refl

-- an item that is a record
held_kind : (text : List ℕ) (x : Item) (given : Rec) → item_blocks text x ≡ Record given ∷ [] → (j : Kind) → holds j x ≡ same_kind given.kind j
held_kind text Gone given e j = cc
held_kind text (Lines s) given e j = no_record (lines_in (bytes_at text s.start s.end)) e
  where
    no_record : (ls : List TextLine) → map Loose ls ≡ Record given ∷ [] → holds j (Lines s) ≡ same_kind given.kind j
    no_record [] e = cc
    no_record (l ∷ ls) e = cc
held_kind text (Held q) given e j =
    let same : rec_at text q ≡ given = cc in
    ap (λ (r : Rec). same_kind r.kind j) same

pub none_there : (xs : List ℕ) → length xs ≡ 0 → xs ≡ []
none_there [] e = refl
none_there (x ∷ xs) e = absurd (omega (arith, e))

module _ {A : Type 0} (text : List ℕ) (k : Kind) (header header2 : Span) (items items1 : List Item) (at : ℕ) (x : Item) (t : Stretch) (given : Rec) (old new : List (Vec ℕ A))
    (room : HasRoom items at) (place : suc (length (blocks_at text (take at items))) ≡ new_place k (book_blocks text header items))
    (ended : Loose (line_at text header2) ∷ blocks_at text (take at items1) ≡ ended_last (Loose (line_at text header) ∷ blocks_at text (take at items)))
    (back : drop at items1 ≡ drop at items) (same_places : (j : Kind) → places_from j 0 items1 ≡ places_from j 0 items)
    (record_is : item_blocks text x ≡ Record given ∷ []) (tail_is : item_blocks text (Lines t) ≡ Loose feed_line ∷ []) where
  abbrev pub rest : List Item
  rest = room.rest

  wide : at + 2 ≤ length items
  wide = omega (arith, ap length room.gone, length-drop at items)

  pub wide1 : at + 2 ≤ length items1
  wide1 = omega (arith, ap length (back ∙ room.gone), length-drop at items1)

  front_length : length (take at items1) ≡ at
  front_length = length-take-le at items1 (omega (arith, wide1))

  items1_is : items1 ≡ take at items1 ++ Gone ∷ Gone ∷ rest
  items1_is = sym (take-append-drop at items1) ∙ ap (λ b. take at items1 ++ b) (back ∙ room.gone)

  pub put_items : set (set items1 at x) (at + 1) (Lines t) ≡ take at items1 ++ x ∷ Lines t ∷ rest
  put_items =
      let F = take at items1 in
      let n : at + 1 ≡ length (F ++ x ∷ []) = omega (arith, length-append F (x ∷ []), front_length) in
      let first : set items1 at x ≡ F ++ x ∷ Gone ∷ rest = ap (λ (l : List Item). set l at x) items1_is ∙ ap (λ m. set (F ++ Gone ∷ Gone ∷ rest) m x) (sym front_length) ∙ set-append_seam F Gone (Gone ∷ rest) x in
      ap (λ (l : List Item). set l (at + 1) (Lines t)) (first ∙ sym (append_assoc F (x ∷ []) (Gone ∷ rest)))
      ∙ ap (λ m. set ((F ++ x ∷ []) ++ Gone ∷ rest) m (Lines t)) n
      ∙ set-append_seam (F ++ x ∷ []) Gone rest (Lines t)
      ∙ append_assoc F (x ∷ []) (Lines t ∷ rest)

  abbrev pub put : List Item
  put = set (set items1 at x) (at + 1) (Lines t)

  old_blocks : blocks_at text items ≡ blocks_at text (take at items) ++ blocks_at text rest
  old_blocks = ap (blocks_at text) (sym (take-append-drop at items)) ∙ blocks-append text (take at items) (drop at items) ∙ ap (λ (l : List Item). blocks_at text (take at items) ++ blocks_at text l) room.gone

  front_taken : take (suc (length (blocks_at text (take at items)))) (book_blocks text header items) ≡ Loose (line_at text header) ∷ blocks_at text (take at items)
  front_taken = ap (λ (bs : List Block). Loose (line_at text header) ∷ take (length (blocks_at text (take at items))) bs) old_blocks ∙ ap (λ (bs : List Block). Loose (line_at text header) ∷ bs) (take_at (blocks_at text (take at items)) (blocks_at text rest) (length (blocks_at text (take at items))) refl)

  back_dropped : drop (suc (length (blocks_at text (take at items)))) (book_blocks text header items) ≡ blocks_at text rest
  back_dropped = ap (λ (bs : List Block). drop (length (blocks_at text (take at items))) bs) old_blocks ∙ drop_at (blocks_at text (take at items)) (blocks_at text rest) (length (blocks_at text (take at items))) refl

  pub put_book : book_blocks text header2 put ≡ add_records k (given ∷ []) (book_blocks text header items)
  put_book =
      let B = book_blocks text header items in
      let n = suc (length (blocks_at text (take at items))) in
      ap (λ (l : List Item). Loose (line_at text header2) ∷ blocks_at text l) put_items
      ∙ ap (λ (bs : List Block). Loose (line_at text header2) ∷ bs) (blocks-append text (take at items1) (x ∷ Lines t ∷ rest))
      ∙ ap (λ (bs : List Block). bs ++ blocks_at text (x ∷ Lines t ∷ rest)) ended
      ∙ ap (λ (bs : List Block). ended_last (Loose (line_at text header) ∷ blocks_at text (take at items)) ++ bs) (ap (λ (bs : List Block). bs ++ (item_blocks text (Lines t) ++ blocks_at text rest)) record_is ∙ ap (λ (bs : List Block). Record given ∷ (bs ++ blocks_at text rest)) tail_is)
      ∙ ap (λ (bs : List Block). ended_last bs ++ (Record given ∷ Loose feed_line ∷ blocks_at text rest)) (sym front_taken)
      ∙ ap (λ (bs : List Block). ended_last (take n B) ++ (Record given ∷ Loose feed_line ∷ bs)) (sym back_dropped)
      ∙ ap (λ m. put_at m (with_tails (given ∷ [])) B) place

  -- no record of the kind stands behind
  none_after : (j : ℕ) → places_from k j rest ≡ []
  none_after j =
      let none : records k (blocks_at text rest) ≡ [] = ap (records k) (sym back_dropped) ∙ ap (λ n. records k (drop n (book_blocks text header items))) place ∙ none_behind k (book_blocks text header items) in
      none_there (places_from k j rest) (length_places text k j rest ∙ ap length none)

  places_put : (j : Kind) → places_from j 0 put ≡ places_from j 0 (take at items1) ++ cond (same_kind given.kind j) (at ∷ places_from j (at + 2) rest) (places_from j (at + 2) rest)
  places_put j =
      let n : 0 + length (take at items1) ≡ at = omega (arith, front_length) in
      let m : at + 1 + 1 ≡ at + 2 = omega arith in
      ap (places_from j 0) put_items ∙ places-append j 0 (take at items1) (x ∷ Lines t ∷ rest) ∙ rw (n, held_kind text x given record_is j, m) refl

  places_old : (j : Kind) → places_from j 0 items ≡ places_from j 0 (take at items1) ++ places_from j (at + 2) rest
  places_old j =
      let n : 0 + length (take at items1) ≡ at = omega (arith, front_length) in
      let m : at + 1 + 1 ≡ at + 2 = omega arith in
      sym (same_places j) ∙ ap (places_from j 0) items1_is ∙ places-append j 0 (take at items1) (Gone ∷ Gone ∷ rest) ∙ rw (n, m) refl

  module _ (kind : same_kind given.kind k ≡ true) (index : lists_of old ≡ all_places items) (index_new : lists_of new ≡ set (lists_of old) (kind_place k) (list_of k (lists_of old) ++ at ∷ [])) where
    own : places_from k 0 items ++ at ∷ [] ≡ places_from k 0 put
    own =
        let P = places_from k 0 (take at items1) in
        ap (λ (ps : List ℕ). ps ++ at ∷ []) (places_old k ∙ ap (λ (ps : List ℕ). P ++ ps) (none_after (at + 2)) ∙ append-nil P)
        ∙ sym (places_put k ∙ rw (kind, none_after (at + 2)) refl)

    others : (j : Kind) → same_kind k j ≡ false → places_from j 0 put ≡ places_from j 0 items
    others j apart =
        let no : same_kind given.kind j ≡ false = ap (λ (h : Kind). same_kind h j) (same_kinds given.kind k kind) ∙ apart in
        places_put j ∙ rw no (sym (places_old j))

    pub put_index : lists_of new ≡ all_places put
    put_index =
        index_new ∙ ap (λ (ls : List (List ℕ)). set ls (kind_place k) (list_of k ls ++ at ∷ [])) index
        ∙ ap (λ (ps : List ℕ). set (all_places items) (kind_place k) (ps ++ at ∷ [])) (list_of_kind items k [])
        ∙ one_list items put k (places_from k 0 items ++ at ∷ []) own others
