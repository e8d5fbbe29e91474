-- What stays of items where the records of a kind go, and their tails.
use Rattle.std.specs.Prelude.{if◌then◌else◌}
use Rattle.std.proofs.Common.{◌≡◌, inl, inr, ℕ, ◌+◌, ◌-◌, nat_eq, List, [], ◌∷◌, ◌++◌, map, length, drop, refl, ap, sym, ◌∙◌, Option, cond, true, false, Bool, arith, subst, Some, None}
use Rattle.std.specs.List.{All}
use Rattle.std.proofs.lemmas.List.Elements.{All-head, All-tail, All-cons}
use Rattle.sk_text.specs.Lines.{TextLine, lines_in, is_empty}
use Rattle.sk_records.specs.declared.kinds.Kind.{Kind}
use Rattle.sk_records.specs.declared.items.Item.{Item}
use Rattle.sk_records.specs.declared.items.Item.TheVariants.{Gone, Lines, Held}
use Rattle.sk_records.specs.Blocks.{Block, Loose, Record, without, tail_len}
use Rattle.sk_records.specs.Holding.Held.{bytes_at, rec_at, item_blocks, blocks_at, ItemWithin}
use Rattle.sk_records.specs.Holding.Places.{holds, places_from}
use Rattle.sk_records.specs.declared.items.Stretch.{Stretch}
use Rattle.sk_records.specs.Kinds.{same_kind}
use Rattle.sk_records.specs.Holding.Removed.{shrunk, or_else, is_gone, blank_len, cut_front}
use Rattle.sk_records.specs.Holding.Anew.{is_after, cut_after, left_item, left_items, IsLeft}
use Rattle.sk_records.specs.Laws.MadeAnew.{two}
use Rattle.sk_records.proofs.HeldLines.{length_bytes}
use Rattle.sk_records.proofs.Blank.{first_line, item_shrunk, shrunk_within}
use Rattle.sk_records.specs.Laws.ReadSound.{same_kinds}
use Rattle.sk_records.specs.Laws.ReadAgain.{same_kind_refl}

without_loose : (k : Kind) (ls : List TextLine) (more : List Block) → without k false (map Loose ls ++ more) ≡ map Loose ls ++ without k false more
without_loose k [] more = refl
without_loose k (l ∷ ls) more = ap (λ bs. Loose l ∷ bs) (without_loose k ls more)

-- behind a record that went an empty line goes
without_lines : (k : Kind) (l : TextLine) (ls : List TextLine) (more : List Block) → let bs = map Loose (l ∷ ls) ++ without k false more in drop (tail_len bs) bs ≡ without k true (map Loose (l ∷ ls) ++ more)
without_lines k l ls more = elim (two (is_empty l.body)) [
  | inl e ↦ rw e (sym (without_loose k ls more))
  | inr e ↦ rw e (ap (λ bs. Loose l ∷ bs) (sym (without_loose k ls more)))
]

-- a record of the kind goes
pub left_gone : (text : List ℕ) (k : Kind) (t : Bool) (x : Item) → holds k x ≡ true → IsLeft text k t x Gone
left_gone text k t Gone e = cc
left_gone text k t (Lines s) e = cc
left_gone text k t (Held r) e = record { blocks = λ more. rw e refl; within = tt }

-- lines behind a record that went
left_lines : (text : List ℕ) (k : Kind) (x : Item) → is_gone x ≡ false → is_after k true x ≡ false → holds k x ≡ false → ItemWithin text x → IsLeft text k true x (or_else x (shrunk text x))
left_lines text k Gone g a h is = cc
left_lines text k (Held r) g a h is = record { blocks = λ more. rw h refl; within = is }
left_lines text k (Lines s) g a h is =
    let bytes = bytes_at text s.start s.end in
    let len : length bytes ≡ s.end - s.start = length_bytes text s.start s.end (omega (arith, is.some)) is.within in
    let first = first_line bytes (omega (arith, len, is.some)) in
    record {
      blocks = λ more. item_shrunk text (Lines s) (without k false more) refl is ∙ rw first.is (without_lines k first.line first.rest more);
      within = shrunk_within text (Lines s) is;
    }

pub left_cut : (text : List ℕ) (k : Kind) (t : Bool) (x y : Item) → holds k x ≡ false → ItemWithin text x → Some y ≡ cut_after text t x → IsLeft text k t x y
left_cut text k false x y h is e = cc
left_cut text k true Gone y h is e = cc
left_cut text k true (Held r) y h is e = cc
left_cut text k true (Lines s) y h is e =
    let same : or_else (Lines s) (shrunk text (Lines s)) ≡ y = ap (or_else (Lines s)) (sym e) in
    subst (IsLeft text k true (Lines s)) same (left_lines text k (Lines s) refl refl h is)

pub left_same : (text : List ℕ) (k : Kind) (t : Bool) (x : Item) → holds k x ≡ false → ItemWithin text x → None ≡ cut_after text t x → IsLeft text k t x x
left_same text k t Gone h is e = record { blocks = λ more. refl; within = tt }
left_same text k t (Held r) h is e = record { blocks = λ more. rw h (either t more); within = is }
  where
    either : (t : Bool) (more : List Block) → Record (rec_at text r) ∷ without k false more ≡ cond (cond t false false) (without k false more) (Record (rec_at text r) ∷ without k false more)
    either true more = refl
    either false more = refl
left_same text k false (Lines s) h is e = record { blocks = λ more. sym (without_loose k (lines_in (bytes_at text s.start s.end)) more); within = is }
left_same text k true (Lines s) h is e =
    let same : or_else (Lines s) (shrunk text (Lines s)) ≡ Lines s = ap (or_else (Lines s)) (sym e) in
    subst (IsLeft text k true (Lines s)) same (left_lines text k (Lines s) refl refl h is)

pub left_is : (text : List ℕ) (k : Kind) (t : Bool) (x : Item) → ItemWithin text x → IsLeft text k t x (left_item text k t x)
left_is text k t x is = elim (two (holds k x)) [
  | inl e ↦ rw e (left_gone text k t x e)
  | inr e ↦ rw e (by_cut (cut_after text t x) refl e)
]
  where
    by_cut : (o : Option Item) → o ≡ cut_after text t x → holds k x ≡ false → IsLeft text k t x (or_else x o)
    by_cut None f e = left_same text k t x e is f
    by_cut (Some y) f e = left_cut text k t x y e is f

-- the blocks of what stays
pub left_blocks : (text : List ℕ) (k : Kind) (t : Bool) (xs : List Item) → All (ItemWithin text) xs → blocks_at text (left_items text k t xs) ≡ without k t (blocks_at text xs)
left_blocks text k t [] all = refl
left_blocks text k t (x ∷ xs) all =
    ap (λ (b : List Block). item_blocks text (left_item text k t x) ++ b) (left_blocks text k (is_after k t x) xs (All-tail (ItemWithin text) x xs all))
    ∙ (left_is text k t x (All-head (ItemWithin text) x xs all)).blocks (blocks_at text xs)

pub left_within : (text : List ℕ) (k : Kind) (t : Bool) (xs : List Item) → All (ItemWithin text) xs → All (ItemWithin text) (left_items text k t xs)
left_within text k t [] all = all
left_within text k t (x ∷ xs) all = All-cons (ItemWithin text) (left_item text k t x) (left_items text k (is_after k t x) xs) (left_is text k t x (All-head (ItemWithin text) x xs all)).within (left_within text k (is_after k t x) xs (All-tail (ItemWithin text) x xs all))

-- ---- the places

abbrev pub stays_of : Kind → Kind → Bool → Bool
stays_of k j t = if same_kind j k then false else t

turned : (k j : Kind) → same_kind j k ≡ false → same_kind k j ≡ false
turned k j f = elim (two (same_kind k j)) [
  | inl e ↦ (let no : true ≡ false = sym (same_kind_refl k) ∙ ap (λ (h : Kind). same_kind h k) (same_kinds k j e) ∙ f in cc no)
  | inr e ↦ e
]

-- a record of the kind holds no other kind
pub gone_kinds : (k : Kind) (x : Item) → holds k x ≡ true → (j : Kind) → false ≡ stays_of k j (holds j x)
gone_kinds k Gone e j = cc
gone_kinds k (Lines s) e j = cc
gone_kinds k (Held r) e j = elim (two (same_kind j k)) [
  | inl f ↦ rw f refl
  | inr f ↦ rw f (sym (ap (λ (h : Kind). same_kind h j) (same_kinds r.kind k e) ∙ turned k j f))
]

pub other_kinds : (k : Kind) (x : Item) → holds k x ≡ false → (j : Kind) → holds j x ≡ stays_of k j (holds j x)
other_kinds k x e j = elim (two (same_kind j k)) [
  | inl f ↦ rw f (ap (λ (i : Kind). holds i x) (same_kinds j k f) ∙ e)
  | inr f ↦ rw f refl
]

-- what is left of lines is no record
cut_none : (s : Stretch) (n : ℕ) (y : Item) → Some y ≡ cut_front s n → (j : Kind) → holds j y ≡ false
cut_none s n y e j = elim (two (nat_eq n 0)) [
  | inl a ↦ (let no : Some y ≡ None = rw a at e in cc no)
  | inr a ↦ elim (two (nat_eq (s.start + n) s.end)) [
    | inl b ↦ (let is : Some y ≡ Some Gone = rw (a, b) at e in let same : y ≡ Gone = cc in ap (holds j) same)
    | inr b ↦ (let is : Some y ≡ Some (Lines (record { start = s.start + n; end = s.end })) = rw (a, b) at e in let same : y ≡ Lines (record { start = s.start + n; end = s.end }) = cc in ap (holds j) same)
  ]
]

pub cut_kinds : (text : List ℕ) (k : Kind) (t : Bool) (x y : Item) → Some y ≡ cut_after text t x → holds k x ≡ false → (j : Kind) → holds j y ≡ stays_of k j (holds j x)
cut_kinds text k false x y e n j = cc
cut_kinds text k true Gone y e n j = cc
cut_kinds text k true (Held r) y e n j = cc
cut_kinds text k true (Lines s) y e n j = cut_none s (blank_len (bytes_at text s.start s.end)) y e j ∙ out (same_kind j k)
  where
    out : (t : Bool) → false ≡ (if t then false else false)
    out true = refl
    out false = refl

left_kinds : (text : List ℕ) (k : Kind) (t : Bool) (x : Item) (j : Kind) → holds j (left_item text k t x) ≡ stays_of k j (holds j x)
left_kinds text k t x j = elim (two (holds k x)) [
  | inl e ↦ rw e (gone_kinds k x e j)
  | inr e ↦ rw e (by_cut (cut_after text t x) refl e)
]
  where
    by_cut : (o : Option Item) → o ≡ cut_after text t x → holds k x ≡ false → holds j (or_else x o) ≡ stays_of k j (holds j x)
    by_cut None f e = other_kinds k x e j
    by_cut (Some y) f e = cut_kinds text k t x y f e j

-- the places of the records that stay
pub left_places : (text : List ℕ) (k j : Kind) (t : Bool) (n : ℕ) (xs : List Item) → places_from j n (left_items text k t xs) ≡ (if same_kind j k then [] else places_from j n xs)
left_places text k j t n [] = elim (two (same_kind j k)) [ inl e ↦ rw e refl | inr e ↦ rw e refl ]
left_places text k j t n (x ∷ xs) =
    rw (left_kinds text k t x j, left_places text k j (is_after k t x) (n + 1) xs) (elim (two (same_kind j k)) [ inl e ↦ rw e refl | inr e ↦ rw e refl ])
