-- Where a new record goes behind another.
use Rattle.std.proofs.Common.{◌≡◌, ◌⊎◌, inl, inr, ℕ, suc, ◌+◌, ◌-◌, ◌<◌, ◌≤◌, List, [], ◌∷◌, ◌++◌, map, length, take, drop, get_or, refl, ap, sym, ◌∙◌, append_assoc, true, false, nat_eq, arith, subst, length-append}
use Rattle.std.specs.List.{All}
use Rattle.std.proofs.lemmas.Bool.{eqb-true, ne_eqb}
use Rattle.std.proofs.lemmas.List.{take_at, drop_at, take-append-drop, append-nil, take_all, length-drop}
use Rattle.std.proofs.Math.Seq.{get_or-append_seam, drop-append-add}
use Rattle.std.proofs.lemmas.List.Elements.{All-nil, All-cons, All-head, All-tail}
use Rattle.sk_text.specs.Lines.{TextLine, lines_in, is_empty}
use Rattle.sk_records.specs.declared.items.Stretch.{Stretch}
use Rattle.sk_records.specs.declared.items.Record as held_record
use Rattle.sk_records.specs.declared.items.Item.{Item}
use Rattle.sk_records.specs.declared.items.Item.TheVariants.{Gone, Lines, Held}
use Rattle.sk_records.specs.declared.spots.Front.{Front}
use Rattle.sk_records.specs.declared.spots.Front.TheVariants.{Other, Blank, BlankAndMore}
use Rattle.sk_records.specs.Blocks.{Block, Loose, tail_len, ended_line}
use Rattle.sk_records.specs.Holding.Held.{bytes_at, item_blocks, blocks_at, StretchWithin, ItemWithin}
use Rattle.sk_records.specs.Holding.Places.{places_from, all_places}
use Rattle.sk_records.specs.Holding.Removed.{is_gone, blank_len, shrink_first}
use Rattle.sk_records.specs.Holding.Spots.{gone_len, front_of, IsSpot}
use Rattle.sk_records.specs.Laws.MadeAnew.{two}
use Rattle.sk_records.proofs.HeldLines.{blocks-append, length_bytes, bytes_join, all_right}
use Rattle.sk_records.proofs.Blank.{first_line, blank_within, none_at_end, blocks_shrunk, first_within, places_shrunk}
use Rattle.sk_records.proofs.ItemSet.{all_same}
use Rattle.sk_records.proofs.BookDropped.{places-append}
use Rattle.sk_records.proofs.RoomMade.{nothing_there}

-- the places before anything stands
record IsBehind (back : List Item) : Type 0 where
  gones : List Item
  more : List Item
  whole : back ≡ gones ++ more
  len : gone_len back ≡ length gones
  gone : All (λ (x : Item). is_gone x ≡ true) gones
  first : (more ≡ []) ⊎ ((x : Item) × ((xs : List Item) × ((more ≡ x ∷ xs) × (is_gone x ≡ false))))

behind : (back : List Item) → IsBehind back
behind [] = record { gones = []; more = []; whole = refl; len = refl; gone = All-nil (λ (x : Item). is_gone x ≡ true); first = inl refl }
behind (x ∷ xs) = elim (two (is_gone x)) [
  | inl e ↦ (let b = behind xs in record { gones = x ∷ b.gones; more = b.more; whole = ap (λ l. x ∷ l) b.whole; len = rw e (ap suc b.len); gone = All-cons (λ (x : Item). is_gone x ≡ true) x b.gones e b.gone; first = b.first })
  | inr e ↦ record { gones = []; more = x ∷ xs; whole = refl; len = rw e refl; gone = All-nil (λ (x : Item). is_gone x ≡ true); first = inr (x, (xs, (refl, e))) }
]

pub gone_below : (back : List Item) → gone_len back ≤ length back
gone_below back = let b = behind back in omega (arith, b.len, ap length b.whole, length-append b.gones b.more)

-- what the first line of an item is
abbrev IsFront : List ℕ → Item → List Block → Front → Type 0
IsFront text x more Other = tail_len (item_blocks text x ++ more) ≡ 0
IsFront text x more Blank = (l : TextLine) × ((item_blocks text x ≡ Loose l ∷ []) × ((is_empty l.body ≡ true) × (ended_line l ≡ l)))
IsFront text x more (BlankAndMore s) = (l : TextLine) × ((rest : List Block) × ((item_blocks text x ≡ Loose l ∷ rest) × ((item_blocks text (Lines s) ≡ Loose l ∷ []) × (StretchWithin text s × ((is_empty l.body ≡ true) × (ended_line l ≡ l))))))

front_is : (text : List ℕ) (x : Item) (more : List Block) → is_gone x ≡ false → ItemWithin text x → IsFront text x more (front_of text x)
front_is text Gone more g is = cc
front_is text (Held r) more g is = refl
front_is text (Lines s) more g is =
    let bytes = bytes_at text s.start s.end in
    let len : length bytes ≡ s.end - s.start = length_bytes text s.start s.end (omega (arith, is.some)) is.within in
    let first = first_line bytes (omega (arith, len, is.some)) in
    elim first.blank [
      | inl n ↦ rw (n.0, first.is, n.1) refl
      | inr n ↦ (
          let nonzero : nat_eq (blank_len bytes) 0 ≡ false = ne_eqb (blank_len bytes) 0 (λ z. omega (arith, z, n.0)) in
          let fits : s.start + blank_len bytes ≤ s.end = omega (arith, len, blank_within bytes, is.some) in
          let split : bytes ≡ bytes_at text s.start (s.start + blank_len bytes) ++ bytes_at text (s.start + blank_len bytes) s.end = bytes_join text s.start (s.start + blank_len bytes) s.end (omega arith) fits in
          let size : length (bytes_at text s.start (s.start + blank_len bytes)) ≡ blank_len bytes = omega (arith, length_bytes text s.start (s.start + blank_len bytes) (omega arith) (omega (arith, is.within, fits))) in
          let taken : take (blank_len bytes) bytes ≡ bytes_at text s.start (s.start + blank_len bytes) = cut_front_bytes bytes (blank_len bytes) (bytes_at text s.start (s.start + blank_len bytes)) (bytes_at text (s.start + blank_len bytes) s.end) split size in
          let dropped : drop (blank_len bytes) bytes ≡ bytes_at text (s.start + blank_len bytes) s.end = cut_rest_bytes bytes (blank_len bytes) (bytes_at text s.start (s.start + blank_len bytes)) (bytes_at text (s.start + blank_len bytes) s.end) split size in
          let l = first.line in
          let ended : ended_line l ≡ l = rw n.1.1.1.1 refl in
          elim (two (nat_eq (s.start + blank_len bytes) s.end)) [
            | inl f ↦ (
                let nothing : bytes_at text (s.start + blank_len bytes) s.end ≡ [] = none_at_end text (s.start + blank_len bytes) s.end (omega (arith, eqb-true (s.start + blank_len bytes) s.end f)) in
                let none : first.rest ≡ [] = sym n.1.1.0 ∙ ap lines_in (dropped ∙ nothing) in
                let alone : item_blocks text (Lines s) ≡ Loose l ∷ [] = ap (map Loose) (first.is ∙ ap (λ r. l ∷ r) none) in
                rw (nonzero, f) (l, (alone, (n.1.0, ended))))
            | inr f ↦ (
                let small : lines_in (bytes_at text s.start (s.start + blank_len bytes)) ≡ l ∷ [] = ap lines_in (sym taken) ∙ n.1.1.1.0 in
                rw (nonzero, f) (l, (map Loose first.rest, (ap (map Loose) first.is, (ap (map Loose) small, (record { some = omega (arith, n.0); within = omega (arith, is.within, fits) }, (n.1.0, ended)))))))
          ])
    ]
  where
    cut_front_bytes : (bytes : List ℕ) (n : ℕ) (a b : List ℕ) → bytes ≡ a ++ b → length a ≡ n → take n bytes ≡ a
    cut_front_bytes bytes n a b e len = ap (take n) e ∙ take_at a b n len

    cut_rest_bytes : (bytes : List ℕ) (n : ℕ) (a b : List ℕ) → bytes ≡ a ++ b → length a ≡ n → drop n bytes ≡ b
    cut_rest_bytes bytes n a b e len = ap (drop n) e ∙ drop_at a b n len

-- nothing but a tail's record
pub spot_other : (text : List ℕ) (front : List Item) (held : held_record.Record) (back items : List Item) (place : ℕ) → items ≡ front ++ Held held ∷ back → length front ≡ place → All (ItemWithin text) items → tail_len (blocks_at text back) ≡ 0 → IsSpot text front held back items (place + 1) false
spot_other text front held back items place whole len all none = record {
  mid = [];
  rest = back;
  whole = whole;
  place = omega (arith, len);
  tail_blocks = rw none refl;
  rest_blocks = rw none refl;
  is_tail = refl;
  within = All-tail (ItemWithin text) (Held held) back (all_right (ItemWithin text) front (Held held ∷ back) (subst (All (ItemWithin text)) whole all));
}

module _ (text : List ℕ) (front : List Item) (held : held_record.Record) (back items : List Item) (place : ℕ)
    (whole : items ≡ front ++ Held held ∷ back) (len : length front ≡ place) (all : All (ItemWithin text) items) where
  back_within : All (ItemWithin text) back
  back_within = All-tail (ItemWithin text) (Held held) back (all_right (ItemWithin text) front (Held held ∷ back) (subst (All (ItemWithin text)) whole all))

  pub back_is : drop (place + 1) items ≡ back
  back_is =
      let n : place + 1 ≡ length front + 1 = omega (arith, len) in
      ap (λ k. drop k items) n ∙ ap (drop (length front + 1)) whole ∙ drop-append-add front (Held held ∷ back) 1

  -- nothing stands behind the record
  pub spot_end : place + 1 + gone_len back ≡ length items → IsSpot text front held back items (place + 1) false
  spot_end e = by_first (behind back)
    where
      by_first : IsBehind back → IsSpot text front held back items (place + 1) false
      by_first b = elim b.first [
        | inl none ↦ (
            let same : back ≡ b.gones = b.whole ∙ ap (λ l. b.gones ++ l) none ∙ append-nil b.gones in
            let empty : blocks_at text back ≡ [] = ap (blocks_at text) same ∙ nothing_there text b.gones b.gone in
            spot_other text front held back items place whole len all (ap tail_len empty))
        | inr some ↦ absurd (omega (arith, e, len, ap length whole, length-append front (Held held ∷ back), b.len, ap length b.whole, length-append b.gones b.more, ap length some.1.1.0))
      ]

  module _ (x : Item) (is : x ≡ get_or items (place + 1 + gone_len back) x) (lt : place + 1 + gone_len back < length items) where
    record IsNext : Type 0 where
      gones : List Item
      rest : List Item
      split : back ≡ gones ++ x ∷ rest
      count : gone_len back ≡ length gones
      blocks : blocks_at text back ≡ item_blocks text x ++ blocks_at text rest
      stands : is_gone x ≡ false
      within : ItemWithin text x
      gone : All (λ (y : Item). is_gone y ≡ true) gones

    next : IsNext
    next = by_first (behind back)
      where
        by_first : IsBehind back → IsNext
        by_first b = elim b.first [
          | inl none ↦ absurd (omega (arith, lt, len, ap length whole, length-append front (Held held ∷ back), b.len, ap length b.whole, length-append b.gones b.more, ap length none))
          | inr some ↦ (
              let y : Item = some.0 in
              let ys : List Item = some.1.0 in
              let split : back ≡ b.gones ++ y ∷ ys = b.whole ∙ ap (λ l. b.gones ++ l) some.1.1.0 in
              let all_items : items ≡ (front ++ Held held ∷ b.gones) ++ y ∷ ys = whole ∙ ap (λ l. front ++ Held held ∷ l) split ∙ sym (append_assoc front (Held held ∷ b.gones) (y ∷ ys)) in
              let n : place + 1 + gone_len back ≡ length (front ++ Held held ∷ b.gones) = omega (arith, len, b.len, length-append front (Held held ∷ b.gones)) in
              let same : x ≡ y = is ∙ ap (λ k. get_or items k x) n ∙ ap (λ (l : List Item). get_or l (length (front ++ Held held ∷ b.gones)) x) all_items ∙ get_or-append_seam (front ++ Held held ∷ b.gones) y ys x in
              let split_x : back ≡ b.gones ++ x ∷ ys = split ∙ ap (λ (z : Item). b.gones ++ z ∷ ys) (sym same) in
              record {
                gones = b.gones;
                rest = ys;
                split = split_x;
                count = b.len;
                blocks = ap (blocks_at text) split_x ∙ blocks-append text b.gones (x ∷ ys) ∙ ap (λ l. l ++ (item_blocks text x ++ blocks_at text ys)) (nothing_there text b.gones b.gone);
                stands = ap is_gone same ∙ some.1.1.1;
                within = All-head (ItemWithin text) x ys (all_right (ItemWithin text) b.gones (x ∷ ys) (subst (All (ItemWithin text)) split_x back_within));
                gone = b.gone;
              })
        ]

    -- something else stands behind the record
    pub spot_front_other : front_of text x ≡ Other → IsSpot text front held back items (place + 1) false
    spot_front_other e =
        let fact : IsFront text x (blocks_at text next.rest) Other = subst (IsFront text x (blocks_at text next.rest)) e (front_is text x (blocks_at text next.rest) next.stands next.within) in
        spot_other text front held back items place whole len all (ap tail_len next.blocks ∙ fact)

    -- the tail stands there as an item
    pub spot_blank : front_of text x ≡ Blank → IsSpot text front held back items (place + 1 + gone_len back + 1) true
    spot_blank e =
        let fact : IsFront text x (blocks_at text next.rest) Blank = subst (IsFront text x (blocks_at text next.rest)) e (front_is text x (blocks_at text next.rest) next.stands next.within) in
        let l = fact.0 in
        let mid : List Item = next.gones ++ x ∷ [] in
        let mid_blocks : blocks_at text mid ≡ Loose l ∷ [] = blocks-append text next.gones (x ∷ []) ∙ ap (λ b. b ++ (item_blocks text x ++ [])) (nothing_there text next.gones next.gone) ∙ ap (λ b. b ++ []) fact.1.0 in
        let all_blocks : blocks_at text back ≡ Loose l ∷ blocks_at text next.rest = next.blocks ∙ ap (λ b. b ++ blocks_at text next.rest) fact.1.0 in
        record {
          mid = mid;
          rest = next.rest;
          whole = whole ∙ ap (λ b. front ++ Held held ∷ b) (next.split ∙ sym (append_assoc next.gones (x ∷ []) next.rest));
          place = omega (arith, len, next.count, length-append next.gones (x ∷ []));
          tail_blocks = mid_blocks ∙ sym (rw (all_blocks, fact.1.1.0) refl);
          rest_blocks = sym (rw (all_blocks, fact.1.1.0) refl);
          is_tail = (l, (mid_blocks, fact.1.1.1));
          within = subst (All (ItemWithin text)) (next.split ∙ sym (append_assoc next.gones (x ∷ []) next.rest)) back_within;
        }

    module _ (s : Stretch) (e : front_of text x ≡ BlankAndMore s) where
      fact_more : IsFront text x (blocks_at text next.rest) (BlankAndMore s)
      fact_more = subst (IsFront text x (blocks_at text next.rest)) e (front_is text x (blocks_at text next.rest) next.stands next.within)

      pub stretch_within : StretchWithin text s
      stretch_within = fact_more.1.1.1.1.0

      -- the tail is made an item of its own
      pub spot_more : (new : List Item) → new ≡ front ++ Held held ∷ (Lines s ∷ shrink_first text back) → IsSpot text front held back new (place + 1 + 1) true
      spot_more new is_new =
          let l = fact_more.0 in
          let mid_blocks : blocks_at text (Lines s ∷ []) ≡ Loose l ∷ [] = ap (λ b. b ++ []) fact_more.1.1.1.0 in
          let all_blocks : blocks_at text back ≡ Loose l ∷ (fact_more.1.0 ++ blocks_at text next.rest) = next.blocks ∙ ap (λ b. b ++ blocks_at text next.rest) fact_more.1.1.0 in
          record {
            mid = Lines s ∷ [];
            rest = shrink_first text back;
            whole = is_new;
            place = omega (arith, len);
            tail_blocks = mid_blocks ∙ sym (rw (all_blocks, fact_more.1.1.1.1.1.0) refl);
            rest_blocks = blocks_shrunk text back back_within;
            is_tail = (l, (mid_blocks, fact_more.1.1.1.1.1.1));
            within = All-cons (ItemWithin text) (Lines s) (shrink_first text back) stretch_within (first_within text back back_within);
          }

pub count_is : (slice items back : List Item) (n place : ℕ) → slice ≡ items → n ≡ gone_len (take (length slice - (place + 1)) (drop (place + 1) slice)) → drop (place + 1) items ≡ back → n ≡ gone_len back
count_is slice items back n place same count is =
    count ∙ ap gone_len (take_all (length slice - (place + 1)) (drop (place + 1) slice) (omega (arith, length-drop (place + 1) slice)) ∙ ap (drop (place + 1)) same ∙ is)

-- the places stay where an empty line goes
pub lists_shrunk : (text : List ℕ) (n : ℕ) (items : List Item) → all_places (take n items ++ shrink_first text (drop n items)) ≡ all_places items
lists_shrunk text n items = all_same (take n items ++ shrink_first text (drop n items)) items (λ k.
    places-append k 0 (take n items) (shrink_first text (drop n items))
    ∙ ap (λ l. places_from k 0 (take n items) ++ l) (places_shrunk text k (0 + length (take n items)) (drop n items))
    ∙ sym (places-append k 0 (take n items) (drop n items))
    ∙ ap (places_from k 0) (take-append-drop n items))

-- the items after a stretch was put behind a record, and its empty line went
pub put_and_shrunk : (text : List ℕ) (front : List Item) (held : held_record.Record) (back items ins new : List Item) (place : ℕ) (s : Stretch) → items ≡ front ++ Held held ∷ back → length front ≡ place → ins ≡ take (place + 1) items ++ Lines s ∷ drop (place + 1) items → new ≡ take (place + 1 + 1) ins ++ shrink_first text (drop (place + 1 + 1) ins) → new ≡ front ++ Held held ∷ (Lines s ∷ shrink_first text back)
put_and_shrunk text front held back items ins new place s whole len put shrunk_is =
    let a : List Item = front ++ Held held ∷ [] in
    let la : length a ≡ place + 1 = omega (arith, len, length-append front (Held held ∷ [])) in
    let items_is : items ≡ a ++ back = whole ∙ sym (append_assoc front (Held held ∷ []) back) in
    let fr : take (place + 1) items ≡ a = ap (take (place + 1)) items_is ∙ take_at a back (place + 1) la in
    let bk : drop (place + 1) items ≡ back = ap (drop (place + 1)) items_is ∙ drop_at a back (place + 1) la in
    let b : List Item = a ++ Lines s ∷ [] in
    let lb : length b ≡ place + 1 + 1 = omega (arith, la, length-append a (Lines s ∷ [])) in
    let ins_is : ins ≡ b ++ back = put ∙ ap (λ f. f ++ Lines s ∷ drop (place + 1) items) fr ∙ ap (λ r. a ++ Lines s ∷ r) bk ∙ sym (append_assoc a (Lines s ∷ []) back) in
    let fr2 : take (place + 1 + 1) ins ≡ b = ap (take (place + 1 + 1)) ins_is ∙ take_at b back (place + 1 + 1) lb in
    let bk2 : drop (place + 1 + 1) ins ≡ back = ap (drop (place + 1 + 1)) ins_is ∙ drop_at b back (place + 1 + 1) lb in
    shrunk_is ∙ ap (λ f. f ++ shrink_first text (drop (place + 1 + 1) ins)) fr2 ∙ ap (λ r. b ++ shrink_first text r) bk2
    ∙ append_assoc a (Lines s ∷ []) (shrink_first text back) ∙ append_assoc front (Held held ∷ []) (Lines s ∷ shrink_first text back)

-- the empty line that begins an item lies in the text
pub front_within : (text : List ℕ) (x : Item) (s : Stretch) → ItemWithin text x → front_of text x ≡ BlankAndMore s → StretchWithin text s
front_within text Gone s is e = cc
front_within text (Held r) s is e = cc
front_within text (Lines t) s is e =
    let fact : IsFront text (Lines t) [] (BlankAndMore s) = subst (IsFront text (Lines t) []) e (front_is text (Lines t) [] refl is) in
    fact.1.1.1.1.0
