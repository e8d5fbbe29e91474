-- The place of a new record, by the items.
use Rattle.std.proofs.Common.{◌≡◌, inl, inr, ℕ, suc, ◌+◌, ◌-◌, ◌<◌, List, [], ◌∷◌, ◌++◌, length, get_or, refl, ap, sym, ◌∙◌, true, false, arith, Option, Some, None, unwrap_or, length-append}
use Rattle.std.specs.Option.{option_or}
use Rattle.sk_text.specs.Lines.{TextLine}
use Rattle.sk_records.specs.declared.kinds.Kind.{Kind}
use Rattle.sk_records.specs.declared.items.Record as held_record
use Rattle.sk_records.specs.declared.items.Item.{Item}
use Rattle.sk_records.specs.declared.items.Item.TheVariants.{Held}
use Rattle.sk_records.specs.Kinds.{same_kind, kinds_to}
use Rattle.sk_records.specs.Blocks.{Block, Loose, Record, records, is_of, has, tail_len, end_of_last, first_end, new_place}
use Rattle.sk_records.specs.Holding.Held.{rec_at, blocks_at}
use Rattle.sk_records.specs.Holding.Places.{places_from}
use Rattle.sk_records.specs.Holding.Inserted.{last_of, nearest}
use Rattle.sk_records.specs.Laws.MadeAnew.{two}
use Rattle.sk_records.specs.Laws.RecordsAfter.{records-append}
use Rattle.sk_records.proofs.HeldLines.{blocks-append}
use Rattle.sk_records.proofs.PlacesLemmas.{length_places}
use Rattle.sk_records.proofs.ItemSet.{split_at}

pub none_of_kind : (k : Kind) (bs : List Block) → length (records k bs) ≡ 0 → has k bs ≡ false
none_of_kind k [] e = refl
none_of_kind k (Loose l ∷ bs) e = none_of_kind k bs e
none_of_kind k (Record r ∷ bs) e = elim (two (same_kind r.kind k)) [
  | inl g ↦ (let h : suc (length (records k bs)) ≡ 0 = rw g at e in absurd (omega (arith, h)))
  | inr g ↦ (let h : length (records k bs) ≡ 0 = rw g at e in rw g (none_of_kind k bs h))
]

no_end : (k : Kind) (bs : List Block) → has k bs ≡ false → end_of_last k bs ≡ None
no_end k [] e = refl
no_end k (b ∷ bs) e = elim (two (is_of k b)) [
  | inl g ↦ (let h = rw g at e in cc h)
  | inr g ↦ (let h : has k bs ≡ false = rw g at e in rw (g, no_end k bs h) refl)
]

-- the end of the last record of a kind and its tail
end_at : (k : Kind) (a : List Block) (b : Block) (c : List Block) → is_of k b ≡ true → has k c ≡ false → end_of_last k (a ++ b ∷ c) ≡ Some (length a + suc (tail_len c))
end_at k [] b c e none = let z : 0 + suc (tail_len c) ≡ suc (tail_len c) = omega arith in rw (no_end k c none, e, z) refl
end_at k (x ∷ a) b c e none = let z : suc (length a) + suc (tail_len c) ≡ suc (length a + suc (tail_len c)) = omega arith in rw (end_at k a b c e none, z) refl

-- the last place of a kind, and what stands there
pub record IsLast (k : Kind) (items : List Item) (p : ℕ) : Type 0 where
  pub front : List Item
  pub held : held_record.Record
  pub back : List Item
  pub whole : items ≡ front ++ Held held ∷ back
  pub place : length front ≡ p
  pub kind : same_kind held.kind k ≡ true
  pub none : (text : List ℕ) → has k (blocks_at text back) ≡ false

last_in : (xs : List ℕ) (p : ℕ) → last_of xs ≡ Some p → (0 < length xs) × (get_or xs (length xs - 1) 0 ≡ p)
last_in [] p e = cc
last_in (x ∷ []) p e = (omega arith, (let h : x ≡ p = cc in h))
last_in (x ∷ (y ∷ ys)) p e =
    let more : last_of (y ∷ ys) ≡ Some p = by_last (last_of ys) e in
    let h = last_in (y ∷ ys) p more in
    let n : length (x ∷ (y ∷ ys)) - 1 ≡ suc (length (y ∷ ys) - 1) = omega arith in
    (omega arith, rw n h.1)
  where
    by_last : (o : Option ℕ) → option_or (option_or o (Some y)) (Some x) ≡ Some p → option_or o (Some y) ≡ Some p
    by_last None e = e
    by_last (Some z) e = e

pub last_place_is : (k : Kind) (items : List Item) (p : ℕ) → last_of (places_from k 0 items) ≡ Some p → IsLast k items p
last_place_is k items p e =
    let list = places_from k 0 items in
    let l = last_in list p e in
    let i = length list - 1 in
    let lt : i < length list = omega (arith, l.0) in
    let split = split_at k items i lt in
    record {
      front = split.front;
      held = split.held;
      back = split.back;
      whole = split.whole;
      place = sym split.place ∙ l.1;
      kind = split.kind;
      none = λ text. none_of_kind k (blocks_at text split.back) (
          let total : length list ≡ length (records k (blocks_at text items)) = length_places text k 0 items in
          let cut : records k (blocks_at text items) ≡ records k (blocks_at text split.front) ++ records k (blocks_at text (Held split.held ∷ split.back)) =
          ap (λ (l : List Item). records k (blocks_at text l)) split.whole ∙ ap (records k) (blocks-append text split.front (Held split.held ∷ split.back)) ∙ records-append k (blocks_at text split.front) (blocks_at text (Held split.held ∷ split.back)) in
          let own : length (records k (blocks_at text (Held split.held ∷ split.back))) ≡ suc (length (records k (blocks_at text split.back))) = rw split.kind refl in
          omega (arith, total, ap length cut, length-append (records k (blocks_at text split.front)) (records k (blocks_at text (Held split.held ∷ split.back))), own, split.count text, l.0));
    }

no_list : (xs : List ℕ) → last_of xs ≡ None → length xs ≡ 0
no_list [] e = refl
no_list (x ∷ xs) e = no_some (last_of xs) e
  where
    no_some : (o : Option ℕ) → option_or o (Some x) ≡ None → suc (length xs) ≡ 0
    no_some None e = cc
    no_some (Some y) e = cc

nothing_of : (k : Kind) (text : List ℕ) (items : List Item) → last_of (places_from k 0 items) ≡ None → end_of_last k (blocks_at text items) ≡ None
nothing_of k text items is = no_end k (blocks_at text items) (none_of_kind k (blocks_at text items) (sym (length_places text k 0 items) ∙ no_list (places_from k 0 items) is))

-- the end of the first of some kinds that has a record
record EndsAt (ks : List Kind) (text : List ℕ) (items : List Item) (p : ℕ) : Type 0 where
  kind : Kind
  last : IsLast kind items p
  is : (h : TextLine) → first_end ks (Loose h ∷ blocks_at text items) ≡ Some (suc (length (blocks_at text last.front) + suc (tail_len (blocks_at text last.back))))

place_from : (ks : List Kind) (text : List ℕ) (items : List Item) (p : ℕ) → nearest ks items ≡ Some p → EndsAt ks text items p
place_from [] text items p e = cc
place_from (k ∷ ks) text items p e = by_own (last_of (places_from k 0 items)) refl e (λ f. place_from ks text items p f)
  where
    by_own : (o : Option ℕ) → last_of (places_from k 0 items) ≡ o → option_or o (nearest ks items) ≡ Some p → (nearest ks items ≡ Some p → EndsAt ks text items p) → EndsAt (k ∷ ks) text items p
    by_own None is e go =
        let more = go e in
        record { kind = more.kind; last = more.last; is = λ h. rw (nothing_of k text items is) (more.is h) }
    by_own (Some q) is e go =
        let same : q ≡ p = cc in
        let last = last_place_is k items p (is ∙ ap Some same) in
        let whole : blocks_at text items ≡ blocks_at text last.front ++ Record (rec_at text last.held) ∷ blocks_at text last.back = ap (blocks_at text) last.whole ∙ blocks-append text last.front (Held last.held ∷ last.back) in
        let end : end_of_last k (blocks_at text items) ≡ Some (length (blocks_at text last.front) + suc (tail_len (blocks_at text last.back))) = ap (end_of_last k) whole ∙ end_at k (blocks_at text last.front) (Record (rec_at text last.held)) (blocks_at text last.back) last.kind (last.none text) in
        record { kind = k; last = last; is = λ h. rw end refl }

no_place : (ks : List Kind) (text : List ℕ) (h : TextLine) (items : List Item) → nearest ks items ≡ None → first_end ks (Loose h ∷ blocks_at text items) ≡ None
no_place [] text h items e = refl
no_place (k ∷ ks) text h items e = by_own (last_of (places_from k 0 items)) refl e (λ f. no_place ks text h items f)
  where
    by_own : (o : Option ℕ) → last_of (places_from k 0 items) ≡ o → option_or o (nearest ks items) ≡ None → (nearest ks items ≡ None → first_end ks (Loose h ∷ blocks_at text items) ≡ None) → first_end (k ∷ ks) (Loose h ∷ blocks_at text items) ≡ None
    by_own None is e go = rw (nothing_of k text items is, go e) refl
    by_own (Some q) is e go = cc

pub new_place_none : (k : Kind) (text : List ℕ) (h : TextLine) (items : List Item) → nearest (kinds_to k) items ≡ None → new_place k (Loose h ∷ blocks_at text items) ≡ 1
new_place_none k text h items e = rw (no_place (kinds_to k) text h items e) refl

-- where the new record goes behind another
pub record IsNewPlace (k : Kind) (text : List ℕ) (items : List Item) (p : ℕ) : Type 0 where
  pub front : List Item
  pub held : held_record.Record
  pub back : List Item
  pub whole : items ≡ front ++ Held held ∷ back
  pub place : length front ≡ p
  pub is : (h : TextLine) → new_place k (Loose h ∷ blocks_at text items) ≡ suc (length (blocks_at text front) + suc (tail_len (blocks_at text back)))

pub new_place_behind : (k : Kind) (text : List ℕ) (items : List Item) (p : ℕ) → nearest (kinds_to k) items ≡ Some p → IsNewPlace k text items p
new_place_behind k text items p e =
    let found = place_from (kinds_to k) text items p e in
    record { front = found.last.front; held = found.last.held; back = found.last.back; whole = found.last.whole; place = found.last.place; is = λ h. ap (λ (o : Option ℕ). unwrap_or o 1) (found.is h) }
