-- Records made anew among the items.
use Rattle.std.specs.Prelude.{if◌then◌else◌}
use Rattle.std.proofs.Common.{◌≡◌, ℕ, ◌+◌, ◌<◌, ◌≤◌, List, [], ◌∷◌, ◌++◌, length, take, drop, get_or, refl, ap, sym, ◌∙◌, append_assoc, false, arith, subst, Vec, Ok, length-append}
use Rattle.std.specs.List.{All}
use Rattle.std.proofs.lemmas.List.{take_at, drop_at, take-append-drop, length-take-le}
use Rattle.std.proofs.lemmas.List.Elements.{All-append}
use Rattle.sk_text.specs.Lines.{TextLine}
use Rattle.sk_records.specs.declared.kinds.Kind.{Kind}
use Rattle.sk_records.specs.declared.kinds.Kind.TheVariants.{Group, Param, Request, Entity, Constraint, Style}
use Rattle.sk_records.specs.declared.rows.Span.{Span}
use Rattle.sk_records.specs.declared.items.Item.{Item}
use Rattle.sk_records.specs.declared.items.Item.TheVariants.{Held}
use Rattle.sk_records.specs.Kinds.{same_kind}
use Rattle.sk_records.specs.Blocks.{Block, Rec, Loose, Record, has, feed_line, with_tails, without, add_records, made_anew}
use Rattle.sk_records.specs.Written.{IsText, bare_rec, bare}
use Rattle.sk_records.specs.Holding.Held.{line_at, rec_at, blocks_at, IsWithin, ItemWithin}
use Rattle.sk_records.specs.Holding.Places.{places_from, all_places, lists_of}
use Rattle.sk_records.specs.Given.{recs_of, recs_read, given_records, AreRecords}
use Rattle.sk_records.specs.Holding.GivenHeld.{IsGivenAs}
use Rattle.sk_records.specs.Holding.Grown.{IsGrown}
use Rattle.sk_records.specs.Holding.ChangesHeld.{IsChanged}
use Rattle.sk_records.specs.Holding.BookHeld.{book_blocks, IsHeld, IsBook}
use Rattle.sk_records.specs.Holding.Ready.{IsKept}
use Rattle.sk_records.specs.Holding.Anew.{list_anew, lists_anew, IsSetAnew, IsAnew}
use Rattle.sk_records.specs.Laws.MadeAnew.{anew_at}
use Rattle.sk_records.specs.Laws.TextKept.{given_with_tails, text_anew}
use Rattle.sk_records.proofs.HeldLines.{blocks-append, all_left, all_right}
use Rattle.sk_records.proofs.PlacesLemmas.{length_places}
use Rattle.sk_records.proofs.Growth.{line_same, blocks_same, span_grows}
use Rattle.sk_records.proofs.ItemSet.{IsSplit, split_at}
use Rattle.sk_records.proofs.NewPlace.{none_of_kind}
use Rattle.sk_records.proofs.RecordGoes.{kept}
use Rattle.sk_records.proofs.BookDropped.{places-append}

bare_tails : (rs : List Rec) → bare (with_tails rs) ≡ with_tails (recs_of (bare (with_tails rs)))
bare_tails [] = refl
bare_tails (r ∷ rs) = ap (λ (l : List Block). Record (bare_rec r) ∷ Loose feed_line ∷ l) (bare_tails rs)

-- given lines as items are the given records with their tails
pub given_blocks : (text : List ℕ) (k : Kind) (lines : List ℕ) (items : List Item) → AreRecords k lines → IsGivenAs text lines items → blocks_at text items ≡ with_tails (given_records lines)
given_blocks text k lines items are ag =
    let read : Ok ag.blocks ≡ Ok (with_tails are.given) = sym ag.read ∙ are.read in
    let same : ag.blocks ≡ with_tails are.given = cc in
    ag.same ∙ ap bare same ∙ bare_tails are.given ∙ ap with_tails (sym (ap recs_read are.read))

-- what is made anew where the first stands
module _ {A : Type 0} (old new : List ℕ) (k : Kind) (lines : List ℕ) (items made out : List Item) (was now : List (Vec ℕ A)) (at : ℕ)
    (g : IsGrown old new) (held : IsHeld old items was) (stands : 0 < length (places_from k 0 items)) (place : at ≡ get_or (places_from k 0 items) 0 0)
    (are : AreRecords k lines) (ag : IsGivenAs new lines made)
    (blocks : blocks_at new out ≡ blocks_at new (take at items) ++ (blocks_at new made ++ without k false (blocks_at new (drop at items)))) where
  split : IsSplit k items 0 at
  split = rw (← place) at (split_at k items 0 stands)

  all : All (ItemWithin old) (split.front ++ Held split.held ∷ split.back)
  all = subst (All (ItemWithin old)) split.whole held.within

  front_is : blocks_at new (take at items) ≡ blocks_at old split.front
  front_is = ap (blocks_at new) (ap (take at) split.whole ∙ take_at split.front (Held split.held ∷ split.back) at (sym split.place)) ∙ blocks_same old new split.front g (all_left (ItemWithin old) split.front (Held split.held ∷ split.back) all)

  back_is : blocks_at new (drop at items) ≡ Record (rec_at old split.held) ∷ blocks_at old split.back
  back_is = ap (blocks_at new) (ap (drop at) split.whole ∙ drop_at split.front (Held split.held ∷ split.back) at (sym split.place)) ∙ blocks_same old new (Held split.held ∷ split.back) g (all_right (ItemWithin old) split.front (Held split.held ∷ split.back) all)

  pub set_blocks : (l : TextLine) → Loose l ∷ blocks_at new out ≡ made_anew k (given_records lines) (Loose l ∷ blocks_at old items)
  set_blocks l =
      let F = blocks_at old split.front in
      let R = Record (rec_at old split.held) in
      let B = blocks_at old split.back in
      let none : has k F ≡ false = none_of_kind k F (split.count old) in
      ap (λ (bs : List Block). Loose l ∷ bs) (blocks ∙ ap (λ (bs : List Block). bs ++ (blocks_at new made ++ without k false (blocks_at new (drop at items)))) front_is
      ∙ ap (λ (bs : List Block). F ++ (bs ++ without k false (blocks_at new (drop at items)))) (given_blocks new k lines made are ag)
      ∙ ap (λ (bs : List Block). F ++ (with_tails (given_records lines) ++ without k false bs)) back_is)
      ∙ sym (anew_at k (given_records lines) (Loose l ∷ F) R B none split.kind)
      ∙ ap (λ (bs : List Block). made_anew k (given_records lines) (Loose l ∷ bs)) (sym (ap (blocks_at old) split.whole ∙ blocks-append old split.front (Held split.held ∷ split.back)))

  pub set_anew_there : All (ItemWithin new) out → lists_of now ≡ all_places out → IsSetAnew old new k lines items out now
  set_anew_there within index = record { blocks = set_blocks; held = record { within = within; index = index } }

-- ---- new items at a place, and behind it without the records of a kind

list_is : (k : Kind) (at : ℕ) (items new rest : List Item) → at ≤ length items → ((j : Kind) → (n : ℕ) → places_from j n rest ≡ (if same_kind j k then [] else places_from j n (drop at items))) → (j : Kind) → list_anew k at items new j ≡ places_from j 0 (take at items ++ (new ++ rest))
list_is k at items new rest le left j =
    let n : 0 + length (take at items) ≡ at = omega (arith, length-take-le at items le) in
    sym (places-append j 0 (take at items) (new ++ rest)
    ∙ ap (λ (m : ℕ). places_from j 0 (take at items) ++ places_from j m (new ++ rest)) n
    ∙ ap (λ (ps : List ℕ). places_from j 0 (take at items) ++ ps) (places-append j at new rest ∙ ap (λ (ps : List ℕ). places_from j at new ++ ps) (left j (at + length new))))

pub lists_are : (k : Kind) (at : ℕ) (items new rest : List Item) → at ≤ length items → ((j : Kind) → (n : ℕ) → places_from j n rest ≡ (if same_kind j k then [] else places_from j n (drop at items))) → lists_anew k at items new ≡ all_places (take at items ++ (new ++ rest))
lists_are k at items new rest le left =
    let is : (j : Kind) → list_anew k at items new j ≡ places_from j 0 (take at items ++ (new ++ rest)) = list_is k at items new rest le left in
    rw (is Group, is Param, is Request, is Entity, is Constraint, is Style) refl

module _ (text : List ℕ) (k : Kind) (items new rest : List Item) (at : ℕ) where
  pub out_blocks : blocks_at text rest ≡ without k false (blocks_at text (drop at items)) → blocks_at text (take at items ++ (new ++ rest)) ≡ blocks_at text (take at items) ++ (blocks_at text new ++ without k false (blocks_at text (drop at items)))
  out_blocks e = blocks-append text (take at items) (new ++ rest) ∙ ap (λ (b : List Block). blocks_at text (take at items) ++ b) (blocks-append text new rest ∙ ap (λ (b : List Block). blocks_at text new ++ b) e)

  pub out_within : All (ItemWithin text) items → All (ItemWithin text) new → All (ItemWithin text) rest → All (ItemWithin text) (take at items ++ (new ++ rest))
  out_within all new_within rest_within =
      let whole : All (ItemWithin text) (take at items ++ drop at items) = subst (All (ItemWithin text)) (sym (take-append-drop at items)) all in
      All-append (ItemWithin text) (take at items) (new ++ rest) (all_left (ItemWithin text) (take at items) (drop at items) whole) (All-append (ItemWithin text) new rest new_within rest_within)

-- where the new items end
module _ (items made two : List Item) (at behind : ℕ) (le : at ≤ length items) (end : behind ≡ at + length made) (put : two ≡ take at items ++ (made ++ drop at items)) where
  front_len : length (take at items ++ made) ≡ behind
  front_len = omega (arith, end, length-append (take at items) made, length-take-le at items le)

  whole_two : two ≡ (take at items ++ made) ++ drop at items
  whole_two = put ∙ sym (append_assoc (take at items) made (drop at items))

  pub behind_within : behind ≤ length two
  behind_within = omega (arith, front_len, ap length whole_two, length-append (take at items ++ made) (drop at items))

  pub behind_is : drop behind two ≡ drop at items
  behind_is = ap (drop behind) whole_two ∙ drop_at (take at items ++ made) (drop at items) behind front_len

  pub left_out : (f : List Item → List Item) (out : List Item) → out ≡ take behind two ++ f (drop behind two) → out ≡ take at items ++ (made ++ f (drop at items))
  left_out f out e =
      e ∙ ap (λ (l : List Item). l ++ f (drop behind two)) (ap (take behind) whole_two ∙ take_at (take at items ++ made) (drop at items) behind front_len)
      ∙ ap (λ (l : List Item). (take at items ++ made) ++ f l) behind_is
      ∙ append_assoc (take at items) made (f (drop at items))

-- ---- the whole

pub anew_standing : {A : Type 0} (old new : List ℕ) (k : Kind) (lines : List ℕ) (header : Span) (items after : List Item) (places : List (Vec ℕ A)) → IsWithin old header → IsGrown old new → IsSetAnew old new k lines items after places → IsAnew old new k lines header header items after places
anew_standing old new k lines header items after places first g made = record {
  book = made.blocks (line_at new header) ∙ ap (λ (l : TextLine). made_anew k (given_records lines) (Loose l ∷ blocks_at old items)) (line_same old new header g first);
  first = span_grows old new header g first;
  held = made.held;
}

pub kept_alike : {A : Type 0} (old new : List ℕ) (header : Span) (items after : List Item) (was now : List (Vec ℕ A)) → IsGrown old new → IsWithin old header → IsHeld old items was → after ≡ items → lists_of now ≡ lists_of was → IsKept old new header header items after now
kept_alike old new header items after was now g first held e f = rw e (kept old new header items was now g first held f)

-- where none stood they are new records
pub anew_added : {A : Type 0} (old new : List ℕ) (k : Kind) (lines : List ℕ) (header header2 : Span) (items items2 : List Item) (places2 : List (Vec ℕ A)) → length (places_from k 0 items) ≡ 0 → IsChanged old new k [] lines header header2 items items2 places2 → IsAnew old new k lines header header2 items items2 places2
anew_added old new k lines header header2 items items2 places2 none made =
    let B = book_blocks old header items in
    let absent : has k B ≡ false = none_of_kind k (blocks_at old items) (sym (length_places old k 0 items) ∙ none) in
    record { book = made.book ∙ sym (when_none k (given_records lines) B absent); first = made.first; held = made.held }
  where
    when_none : (k : Kind) (rs : List Rec) (bs : List Block) → has k bs ≡ false → made_anew k rs bs ≡ add_records k rs bs
    when_none k rs bs e = rw e refl

-- a book whose records were made anew is a book
pub anew_book : {A : Type 0} (old new : List ℕ) (k : Kind) (lines : List ℕ) (was now : Span) (items items2 : List Item) (places places2 : List (Vec ℕ A)) → IsBook old was items places → AreRecords k lines → IsAnew old new k lines was now items items2 places2 → IsBook new now items2 places2
anew_book old new k lines was now items items2 places places2 is are made =
    let given = given_with_tails k lines are in
    record {
      first = made.first;
      held = made.held;
      is_text = subst IsText (sym made.book) (text_anew k (given_records lines) (book_blocks old was items) is.is_text given.recs given.ended);
    }
