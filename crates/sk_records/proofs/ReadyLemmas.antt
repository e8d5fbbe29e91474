-- The items made ready for a new record.
use Rattle.std.proofs.Common.{◌≡◌, inl, inr, ℕ, suc, ◌+◌, ◌≤◌, List, [], ◌∷◌, ◌++◌, length, take, drop, refl, ap, sym, ◌∙◌, append_assoc, cond, true, false, Bool, arith, subst, length-append, None}
use Rattle.std.specs.List.{All}
use Rattle.std.proofs.lemmas.List.{take_at, take-append-drop, length-take-le}
use Rattle.std.proofs.lemmas.List.Elements.{All-cons, All-head, All-append}
use Rattle.sk_text.specs.Lines.{TextLine}
use Rattle.sk_records.specs.declared.kinds.Kind.{Kind}
use Rattle.sk_records.specs.declared.items.Item.{Item}
use Rattle.sk_records.specs.declared.items.Item.TheVariants.{Held}
use Rattle.sk_records.specs.declared.spots.Before.TheVariants as before
use Rattle.sk_records.specs.Kinds.{kinds_to}
use Rattle.sk_records.specs.Blocks.{Block, Loose, Record, is_blank, tail_len, new_place}
use Rattle.sk_records.specs.Holding.Held.{rec_at, blocks_at, ItemWithin}
use Rattle.sk_records.specs.Holding.Inserted.{nearest, HasRoom, StandsAlike}
use Rattle.sk_records.specs.Holding.Spots.{IsTail, IsSpot}
use Rattle.sk_records.specs.Holding.Ready.{IsReady}
use Rattle.sk_records.specs.Laws.MadeAnew.{two}
use Rattle.sk_records.proofs.HeldLines.{blocks-append, all_left, all_right}
use Rattle.sk_records.proofs.NewPlace.{IsNewPlace, new_place_none}

pub alike_blocks : (text : List ℕ) (old new : List Item) (at : ℕ) → StandsAlike old new at → blocks_at text new ≡ blocks_at text old
alike_blocks text old new at is =
    ap (blocks_at text) (sym (take-append-drop at new)) ∙ blocks-append text (take at new) (drop at new)
    ∙ ap (λ (f : List Item). blocks_at text f ++ blocks_at text (drop at new)) is.front ∙ ap (λ b. blocks_at text (take at old) ++ b) (is.behind text)
    ∙ sym (blocks-append text (take at old) (drop at old)) ∙ ap (blocks_at text) (take-append-drop at old)

-- nothing stands before
pub ready_none : (text : List ℕ) (k : Kind) (items new : List Item) → nearest (kinds_to k) items ≡ None → StandsAlike items new 0 → HasRoom new 0 → IsReady text k new 0 before.Header
ready_none text k items new none alike room = record {
  room = room;
  place = λ h. sym (ap (λ (bs : List Block). new_place k (Loose h ∷ bs)) (alike_blocks text items new 0 alike) ∙ new_place_none k text h items none);
  stands = refl;
}

tail_within : (bs : List Block) → tail_len bs ≤ length bs
tail_within [] = omega arith
tail_within (b ∷ bs) = elim (two (is_blank b)) [ inl e ↦ rw e (omega arith) | inr e ↦ rw e (omega arith) ]

module _ (text : List ℕ) (k : Kind) (items mid_items : List Item) (at p : ℕ) (tail : Bool)
    (np : IsNewPlace k text items p) where
  module _ (spot : IsSpot text np.front np.held np.back mid_items at tail) where
    pub spot_blocks : blocks_at text mid_items ≡ blocks_at text items
    spot_blocks =
        let B = blocks_at text np.back in
        ap (blocks_at text) spot.whole ∙ blocks-append text np.front (Held np.held ∷ (spot.mid ++ spot.rest))
        ∙ ap (λ b. blocks_at text np.front ++ (Record (rec_at text np.held) ∷ b)) (blocks-append text spot.mid spot.rest ∙ ap (λ b. b ++ blocks_at text spot.rest) spot.tail_blocks ∙ ap (λ b. take (tail_len B) B ++ b) spot.rest_blocks ∙ take-append-drop (tail_len B) B)
        ∙ sym (blocks-append text np.front (Held np.held ∷ np.back)) ∙ ap (blocks_at text) (sym np.whole)

    pub spot_within : All (ItemWithin text) items → All (ItemWithin text) mid_items
    spot_within all =
        let whole : All (ItemWithin text) (np.front ++ Held np.held ∷ np.back) = subst (All (ItemWithin text)) np.whole all in
        subst (All (ItemWithin text)) (sym spot.whole)
        (All-append (ItemWithin text) np.front (Held np.held ∷ (spot.mid ++ spot.rest)) (all_left (ItemWithin text) np.front (Held np.held ∷ np.back) whole)
        (All-cons (ItemWithin text) (Held np.held) (spot.mid ++ spot.rest) (All-head (ItemWithin text) (Held np.held) np.back (all_right (ItemWithin text) np.front (Held np.held ∷ np.back) whole)) spot.within))

    pub spot_below : at ≤ length mid_items
    spot_below = omega (arith, spot.place, ap length spot.whole, length-append np.front (Held np.held ∷ (spot.mid ++ spot.rest)), length-append spot.mid spot.rest)

    module _ (new : List Item) (alike : StandsAlike mid_items new at) (room : HasRoom new at) where
      taken : take at new ≡ np.front ++ Held np.held ∷ spot.mid
      taken =
          let n : length (np.front ++ Held np.held ∷ spot.mid) ≡ at = omega (arith, spot.place, length-append np.front (Held np.held ∷ spot.mid)) in
          alike.front ∙ ap (take at) (spot.whole ∙ sym (append_assoc np.front (Held np.held ∷ spot.mid) spot.rest)) ∙ take_at (np.front ++ Held np.held ∷ spot.mid) spot.rest at n

      taken_blocks : blocks_at text (take at new) ≡ blocks_at text np.front ++ Record (rec_at text np.held) ∷ blocks_at text spot.mid
      taken_blocks = ap (blocks_at text) taken ∙ blocks-append text np.front (Held np.held ∷ spot.mid)

      pub new_blocks : blocks_at text new ≡ blocks_at text items
      new_blocks = alike_blocks text mid_items new at alike ∙ spot_blocks

      size : length (blocks_at text spot.mid) ≡ tail_len (blocks_at text np.back)
      size = omega (arith, ap length spot.tail_blocks, length-take-le (tail_len (blocks_at text np.back)) (blocks_at text np.back) (tail_within (blocks_at text np.back)))

      place_is : (h : TextLine) → suc (length (blocks_at text (take at new))) ≡ new_place k (Loose h ∷ blocks_at text new)
      place_is h =
          let own : new_place k (Loose h ∷ blocks_at text items) ≡ suc (length (blocks_at text np.front) + suc (tail_len (blocks_at text np.back))) = np.is h in
          let here : suc (length (blocks_at text (take at new))) ≡ suc (length (blocks_at text np.front) + suc (tail_len (blocks_at text np.back))) = omega (arith, ap length taken_blocks, length-append (blocks_at text np.front) (Record (rec_at text np.held) ∷ blocks_at text spot.mid), size) in
          here ∙ sym (ap (λ (bs : List Block). new_place k (Loose h ∷ bs)) new_blocks ∙ own)

      pub ready_tail : tail ≡ true → IsReady text k new at before.Tail
      ready_tail t =
          let is : IsTail true (blocks_at text spot.mid) = subst (λ (x : Bool). IsTail x (blocks_at text spot.mid)) t spot.is_tail in
          record {
            room = room;
            place = place_is;
            stands = (blocks_at text np.front ++ Record (rec_at text np.held) ∷ [], (is.0, (taken_blocks ∙ ap (λ b. blocks_at text np.front ++ Record (rec_at text np.held) ∷ b) is.1.0 ∙ sym (append_assoc (blocks_at text np.front) (Record (rec_at text np.held) ∷ []) (Loose is.0 ∷ [])), is.1.1)));
          }

      pub ready_record : tail ≡ false → IsReady text k new at (before.Record p)
      ready_record t =
          let none : blocks_at text spot.mid ≡ [] = subst (λ (x : Bool). IsTail x (blocks_at text spot.mid)) t spot.is_tail in
          let whole : new ≡ np.front ++ Held np.held ∷ (spot.mid ++ drop at new) = sym (take-append-drop at new) ∙ ap (λ f. f ++ drop at new) taken ∙ append_assoc np.front (Held np.held ∷ spot.mid) (drop at new) in
          let front_is : take p new ≡ np.front = ap (take p) whole ∙ take_at np.front (Held np.held ∷ (spot.mid ++ drop at new)) p np.place in
          record {
            room = room;
            place = place_is;
            stands = (np.held, (spot.mid, (whole ∙ ap (λ f. f ++ Held np.held ∷ (spot.mid ++ drop at new)) (sym front_is), none)));
          }

-- the spot behind a record, whichever it has
pub ready_spot : (text : List ℕ) (k : Kind) (items mid_items new : List Item) (at p : ℕ) (tail : Bool) (np : IsNewPlace k text items p) → IsSpot text np.front np.held np.back mid_items at tail → StandsAlike mid_items new at → HasRoom new at → IsReady text k new at (cond tail before.Tail (before.Record p))
ready_spot text k items mid_items new at p true np spot alike room = ready_tail text k items mid_items at p true np spot new alike room refl
ready_spot text k items mid_items new at p false np spot alike room = ready_record text k items mid_items at p false np spot new alike room refl
