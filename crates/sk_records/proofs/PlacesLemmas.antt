-- The places of records, and the records there.
use Rattle.std.proofs.Common.{◌≡◌, inl, inr, ℕ, zero, suc, ◌+◌, ◌-◌, ◌<◌, ◌≤◌, List, [], ◌∷◌, ◌++◌, map, length, get_or, refl, ap, sym, ◌∙◌, cond, true, arith, subst, Vec, Option, Some, None}
use Rattle.std.specs.Option.{option_or}
use Rattle.std.specs.List.{All}
use Rattle.std.proofs.Math.ListN.{get_or-map}
use Rattle.sk_records.specs.declared.kinds.Kind.{Kind}
use Rattle.sk_records.specs.declared.kinds.Kind.TheVariants.{Group, Param, Request, Entity, Constraint, Style}
use Rattle.sk_records.specs.declared.items.Item.{Item}
use Rattle.sk_records.specs.declared.items.Item.TheVariants.{Gone, Lines, Held}
use Rattle.sk_records.specs.declared.items.Record as held_record
use Rattle.sk_records.specs.Kinds.{kind_place, same_kind}
use Rattle.sk_records.specs.Rows.{Row, last_value, last_number, value_in, is_known}
use Rattle.sk_records.specs.Blocks.{Loose, records}
use Rattle.sk_records.specs.Holding.Held.{bytes_at, rows_at, item_blocks, blocks_at, ItemWithin, RecordWithin}
use Rattle.sk_text.specs.Lines.{TextLine, lines_in}
use Rattle.sk_records.specs.declared.items.Stretch.{Stretch}
use Rattle.sk_records.specs.Holding.Places.{places_from, all_places, lists_of}
use Rattle.sk_records.specs.Laws.MadeAnew.{two}
use Rattle.sk_records.specs.Laws.RecordsAfter.{records-append}

-- the number of a key that no line has is none
pub number_or_none : (key : List ℕ) (rows : List Row) → cond (is_known (last_value key rows)) (last_number key rows) None ≡ last_number key rows
number_or_none key [] = refl
number_or_none key (r ∷ rs) = by_value (last_value key rs) (value_in key r) (last_number key rs) r.number
  where
    by_value : (o x : Option (List ℕ)) (n m : Option ℕ) → cond (is_known (option_or o x)) (cond (is_known o) n (cond (is_known x) m None)) None ≡ cond (is_known o) n (cond (is_known x) m None)
    by_value None None n m = refl
    by_value None (Some v) n m = refl
    by_value (Some v) x n m = refl

pub list_of_kind : (items : List Item) (k : Kind) (d : List ℕ) → get_or (all_places items) (kind_place k) d ≡ places_from k 0 items
list_of_kind items Group d = refl
list_of_kind items Param d = refl
list_of_kind items Request d = refl
list_of_kind items Entity d = refl
list_of_kind items Constraint d = refl
list_of_kind items Style d = refl

-- the list of a kind
pub list_at : {A : Type 0} (vs : List (Vec ℕ A)) (items : List Item) (k : Kind) (v : Vec ℕ A) → lists_of vs ≡ all_places items → v ≡ get_or vs (kind_place k) v → v.items ≡ places_from k 0 items
list_at {A} vs items k v is e =
    ap (λ (w : Vec ℕ A). w.items) e
    ∙ sym (get_or-map (λ (w : Vec ℕ A). w.items) vs (kind_place k) v)
    ∙ ap (λ (ls : List (List ℕ)). get_or ls (kind_place k) v.items) is
    ∙ list_of_kind items k v.items

none_loose : (k : Kind) (ls : List TextLine) → records k (map Loose ls) ≡ []
none_loose k [] = refl
none_loose k (l ∷ ls) = none_loose k ls

-- lines that stand between records are none
pub records_lines : (text : List ℕ) (k : Kind) (s : Stretch) (xs : List Item) → records k (blocks_at text (Lines s ∷ xs)) ≡ records k (blocks_at text xs)
records_lines text k s xs =
    records-append k (item_blocks text (Lines s)) (blocks_at text xs) ∙ ap (λ (l : List (List Row)). l ++ records k (blocks_at text xs)) (none_loose k (lines_in (bytes_at text s.start s.end)))

-- there are as many places as records
pub length_places : (text : List ℕ) (k : Kind) (j : ℕ) (items : List Item) → length (places_from k j items) ≡ length (records k (blocks_at text items))
length_places text k j [] = refl
length_places text k j (Gone ∷ xs) = length_places text k (j + 1) xs
length_places text k j (Lines s ∷ xs) = length_places text k (j + 1) xs ∙ sym (ap length (records_lines text k s xs))
length_places text k j (Held r ∷ xs) = elim (two (same_kind r.kind k)) [
  | inl e ↦ rw e (ap suc (length_places text k (j + 1) xs))
  | inr e ↦ rw e (length_places text k (j + 1) xs)
]

-- a record of the kind stands at its place
pub record IsAt (text : List ℕ) (k : Kind) (items : List Item) (at : ℕ) (rows : List Row) : Type 0 where
  pub below : at < length items
  pub held : held_record.Record
  pub item : (d : Item) → get_or items at d ≡ Held held
  pub kind : same_kind held.kind k ≡ true
  pub lines : rows_at text held.rows.items ≡ rows

record IsFrom (text : List ℕ) (k : Kind) (j : ℕ) (items : List Item) (at : ℕ) (rows : List Row) : Type 0 where
  low : j ≤ at
  here : IsAt text k items (at - j) rows

one_more : (text : List ℕ) (k : Kind) (j : ℕ) (x : Item) (xs : List Item) (at : ℕ) (rows : List Row) → IsFrom text k (j + 1) xs at rows → IsFrom text k j (x ∷ xs) at rows
one_more text k j x xs at rows is =
    let n : at - j ≡ suc (at - (j + 1)) = omega (arith, is.low) in
    record {
      low = omega (arith, is.low);
      here = rw n (record {
        below = omega (arith, is.here.below);
        held = is.here.held;
        item = is.here.item;
        kind = is.here.kind;
        lines = is.here.lines;
      });
    }

find_from : (text : List ℕ) (k : Kind) (j : ℕ) (items : List Item) (i : ℕ) → i < length (places_from k j items) → IsFrom text k j items (get_or (places_from k j items) i 0) (get_or (records k (blocks_at text items)) i [])
find_from text k j [] i lt = absurd (omega arith)
find_from text k j (Gone ∷ xs) i lt = one_more text k j Gone xs _ _ (find_from text k (j + 1) xs i lt)
find_from text k j (Lines s ∷ xs) i lt = one_more text k j (Lines s) xs _ _ (rw (records_lines text k s xs) (find_from text k (j + 1) xs i lt))
find_from text k j (Held r ∷ xs) i lt = elim (two (same_kind r.kind k)) [
  | inl e ↦ (let f = rw e at lt in rw e (first i f e (λ n below. find_from text k (j + 1) xs n below)))
  | inr e ↦ (let f = rw e at lt in rw e (one_more text k j (Held r) xs _ _ (find_from text k (j + 1) xs i f)))
]
  where
    first : (i : ℕ) → i < length (j ∷ places_from k (j + 1) xs) → same_kind r.kind k ≡ true → ((n : ℕ) → n < length (places_from k (j + 1) xs) → IsFrom text k (j + 1) xs (get_or (places_from k (j + 1) xs) n 0) (get_or (records k (blocks_at text xs)) n [])) → IsFrom text k j (Held r ∷ xs) (get_or (j ∷ places_from k (j + 1) xs) i 0) (get_or (rows_at text r.rows.items ∷ records k (blocks_at text xs)) i [])
    first zero lt e go =
        let n : j - j ≡ 0 = omega arith in
        record { low = omega arith; here = rw n (record { below = omega arith; held = r; item = λ d. refl; kind = e; lines = refl }) }
    first (suc i) lt e go = one_more text k j (Held r) xs _ _ (go i (omega arith))

-- the record with a place in its kind stands where the list of places says
pub find_record : (text : List ℕ) (k : Kind) (items : List Item) (i : ℕ) → i < length (places_from k 0 items) → IsAt text k items (get_or (places_from k 0 items) i 0) (get_or (records k (blocks_at text items)) i [])
find_record text k items i lt =
    let is = find_from text k 0 items i lt in
    let at = get_or (places_from k 0 items) i 0 in
    let n : at - 0 ≡ at = omega arith in
    subst (λ (m : ℕ). IsAt text k items m (get_or (records k (blocks_at text items)) i [])) n is.here

-- a record that stands at a place lies in the text
pub held_within : (text : List ℕ) (items : List Item) (at : ℕ) (x : Item) (r : held_record.Record) → All (ItemWithin text) items → at < length items → x ≡ get_or items at x → x ≡ Held r → RecordWithin text r
held_within text items at x r all lt is e =
    let here : ItemWithin text (get_or items at x) = all at x lt in
    subst (ItemWithin text) (sym is ∙ e) here

pub same_record : (a b : held_record.Record) → Held a ≡ Held b → a ≡ b
same_record a b e = cc
