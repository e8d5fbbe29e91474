-- The empty line at the front of what is held.
use Rattle.std.proofs.Common.{◌≡◌, ◌⊎◌, inl, inr, ℕ, ◌+◌, ◌-◌, ◌<◌, ◌≤◌, zero, suc, List, [], ◌∷◌, ◌++◌, length, take, drop, get_or, set, refl, ap, sym, ◌∙◌, cond, true, false, Bool, nat_eq, arith, subst, Some, None}
use Rattle.std.specs.List.{All}
use Rattle.std.proofs.lemmas.List.Elements.{All-head, All-tail, All-cons}
use Rattle.std.proofs.lemmas.Bool.{eqb-true, eqb-false, eq-eqb, ne_eqb}
use Rattle.std.proofs.lemmas.List.{drop_at}
use Rattle.sk_text.specs.Lines.{TextLine, lines_in, line_bytes, joined, end_len, is_empty, IsEnd, AreLines}
use Rattle.sk_text.specs.LineLaws.{lines_joined, lines_ended}
use Rattle.sk_records.specs.declared.kinds.Kind.{Kind}
use Rattle.sk_records.specs.declared.items.Item.{Item}
use Rattle.sk_records.specs.declared.items.Item.TheVariants.{Gone, Lines, Held}
use Rattle.sk_records.specs.Blocks.{Block, tail_len}
use Rattle.sk_records.specs.Holding.Held.{bytes_at, item_blocks, blocks_at, ItemWithin}
use Rattle.sk_records.specs.Holding.Places.{holds, places_from}
use Rattle.sk_records.specs.Holding.Removed.{feed_len, blank_len, shrunk, is_gone, or_else, shrink_first}
use Rattle.sk_records.specs.Laws.MadeAnew.{two}
use Rattle.sk_records.proofs.HeldLines.{length_bytes, bytes_join}

-- the first line of some bytes: it is empty exactly where an empty line stands at the front
pub record FirstLine (bytes : List ℕ) : Type 0 where
  pub line : TextLine
  pub rest : List TextLine
  pub is : lines_in bytes ≡ line ∷ rest
  pub blank : ((blank_len bytes ≡ 0) × (is_empty line.body ≡ false)) ⊎ ((0 < blank_len bytes) × ((is_empty line.body ≡ true) × ((lines_in (drop (blank_len bytes) bytes) ≡ rest) × ((lines_in (take (blank_len bytes) bytes) ≡ line ∷ []) × (is_empty line.ending ≡ false)))))

feed_front : (bs : List ℕ) → lines_in (10 ∷ bs) ≡ record { body = []; ending = 10 ∷ [] } ∷ lines_in bs
unfolding end_len
feed_front bs = refl

return_front : (bs : List ℕ) → lines_in (13 ∷ 10 ∷ bs) ≡ record { body = []; ending = 13 ∷ 10 ∷ [] } ∷ lines_in bs
unfolding end_len
return_front bs = refl

some_bytes : (b : ℕ) (bs : List ℕ) (ls : List TextLine) → joined ls ≡ b ∷ bs → (l : TextLine) × ((rest : List TextLine) × (ls ≡ l ∷ rest))
some_bytes b bs [] e = cc
some_bytes b bs (l ∷ ls) e = (l, (ls, refl))

no_blank : (b : ℕ) (bs : List ℕ) (body ending rest : List ℕ) → blank_len (b ∷ bs) ≡ 0 → is_empty body ≡ true → (body ++ ending) ++ rest ≡ b ∷ bs → IsEnd body ending → ⊥
no_blank b bs (x ∷ body) ending rest z e j end = cc
no_blank b bs [] ending rest z e j (inl end) =
    let j' : (10 ∷ []) ++ rest ≡ b ∷ bs = ap (λ x. x ++ rest) (sym end.0) ∙ j in
    let is : 10 ≡ b = cc in
    let t : nat_eq b 10 ≡ true = eq-eqb b 10 (sym is) in
    let one : 1 ≡ 0 = rw t at z in
    absurd (omega (arith, one))
no_blank b bs [] ending rest z e j (inr end) =
    let j' : 13 ∷ (10 ∷ rest) ≡ b ∷ bs = ap (λ x. x ++ rest) (sym end) ∙ j in
    let is : 13 ≡ b = cc in
    let more : 10 ∷ rest ≡ bs = cc in
    let y : blank_len (13 ∷ (10 ∷ rest)) ≡ 0 = ap blank_len j' ∙ z in
    absurd (omega (arith, y))

no_line : (b : ℕ) (bs : List ℕ) (l : TextLine) (ls : List TextLine) → blank_len (b ∷ bs) ≡ 0 → line_bytes l ++ joined ls ≡ b ∷ bs → AreLines (l ∷ ls) → is_empty l.body ≡ true → ⊥
no_line b bs l [] z j (inl is) e = no_blank b bs l.body l.ending (joined []) z e j is.end
no_line b bs l [] z j (inr is) e = cc (is.some, e)
no_line b bs l (m ∷ ms) z j is e = no_blank b bs l.body l.ending (joined (m ∷ ms)) z e j is.0.end

not_blank : (b : ℕ) (bs : List ℕ) → blank_len (b ∷ bs) ≡ 0 → FirstLine (b ∷ bs)
not_blank b bs z =
    let s = some_bytes b bs (lines_in (b ∷ bs)) (lines_joined (b ∷ bs)) in
    let j : line_bytes s.0 ++ joined s.1.0 ≡ b ∷ bs = ap joined (sym s.1.1) ∙ lines_joined (b ∷ bs) in
    let are : AreLines (s.0 ∷ s.1.0) = subst AreLines s.1.1 (lines_ended (b ∷ bs)) in
    let full : is_empty s.0.body ≡ false = elim (two (is_empty s.0.body)) [ inl e ↦ absurd (no_line b bs s.0 s.1.0 z j are e) | inr e ↦ e ] in
    record { line = s.0; rest = s.1.0; is = s.1.1; blank = inl (z, full) }

pub first_line : (bytes : List ℕ) → 0 < length bytes → FirstLine bytes
first_line [] lt = absurd (omega arith)
first_line (b ∷ bs) lt = elim (two (nat_eq b 10)) [
  | inl e ↦ subst (λ (x : ℕ). FirstLine (x ∷ bs)) (sym (eqb-true b 10 e)) (record { line = record { body = []; ending = 10 ∷ [] }; rest = lines_in bs; is = feed_front bs; blank = inr (omega arith, (refl, (refl, (feed_front [], refl)))) })
  | inr e ↦ elim (two (nat_eq b 13)) [
    | inl f ↦ subst (λ (x : ℕ). FirstLine (x ∷ bs)) (sym (eqb-true b 13 f)) (return_first bs)
    | inr f ↦ not_blank b bs (rw (e, f) refl)
  ]
]
  where
    return_first : (bs : List ℕ) → FirstLine (13 ∷ bs)
    return_first [] = not_blank 13 [] refl
    return_first (c ∷ cs) = elim (two (nat_eq c 10)) [
      | inl g ↦ subst (λ (x : ℕ). FirstLine (13 ∷ x ∷ cs)) (sym (eqb-true c 10 g)) (record { line = record { body = []; ending = 13 ∷ 10 ∷ [] }; rest = lines_in cs; is = return_front cs; blank = inr (omega arith, (refl, (refl, (return_front [], refl)))) })
      | inr g ↦ not_blank 13 (c ∷ cs) (rw g refl)
    ]

-- ---- items

pub blank_within : (bytes : List ℕ) → blank_len bytes ≤ length bytes
blank_within [] = omega arith
blank_within (b ∷ bs) = elim (two (nat_eq b 10)) [
  | inl e ↦ rw e (omega arith)
  | inr e ↦ elim (two (nat_eq b 13)) [ inl f ↦ rw (e, f) (feed_within bs) | inr f ↦ rw (e, f) (omega arith) ]
]
  where
    feed_within : (bs : List ℕ) → feed_len bs ≤ suc (length bs)
    feed_within [] = omega arith
    feed_within (c ∷ cs) = elim (two (nat_eq c 10)) [ inl g ↦ rw g (omega arith) | inr g ↦ rw g (omega arith) ]

bytes_from : (text : List ℕ) (a b n : ℕ) → a + n ≤ b → b ≤ length text → drop n (bytes_at text a b) ≡ bytes_at text (a + n) b
bytes_from text a b n lt within =
    let len : length (bytes_at text a (a + n)) ≡ n = omega (arith, length_bytes text a (a + n) (omega arith) (omega arith)) in
    ap (drop n) (bytes_join text a (a + n) b (omega arith) lt) ∙ drop_at (bytes_at text a (a + n)) (bytes_at text (a + n) b) n len

pub none_at_end : (text : List ℕ) (a b : ℕ) → b ≤ a → bytes_at text a b ≡ []
none_at_end text a b le = let n : b - a ≡ 0 = omega arith in ap (λ k. take k (drop a text)) n

-- the item without the empty line at its front
pub item_shrunk : (text : List ℕ) (x : Item) (more : List Block) → is_gone x ≡ false → ItemWithin text x → item_blocks text (or_else x (shrunk text x)) ++ more ≡ drop (tail_len (item_blocks text x ++ more)) (item_blocks text x ++ more)
item_shrunk text Gone more g is = cc
item_shrunk text (Held r) more g is = refl
item_shrunk text (Lines s) more g is =
    let bytes = bytes_at text s.start s.end in
    let len : length bytes ≡ s.end - s.start = length_bytes text s.start s.end (omega (arith, is.some)) is.within in
    let first = first_line bytes (omega (arith, len, is.some)) in
    elim first.blank [
      | inl n ↦ rw (n.0, first.is, n.1) refl
      | inr n ↦ (
          let nonzero : nat_eq (blank_len bytes) 0 ≡ false = ne_eqb (blank_len bytes) 0 (λ z. omega (arith, z, n.0)) in
          let fits : s.start + blank_len bytes ≤ s.end = omega (arith, len, blank_within bytes, is.some) in
          let rest : drop (blank_len bytes) bytes ≡ bytes_at text (s.start + blank_len bytes) s.end = bytes_from text s.start s.end (blank_len bytes) fits is.within in
          elim (two (nat_eq (s.start + blank_len bytes) s.end)) [
            | inl f ↦ (
                let none : lines_in [] ≡ first.rest = ap lines_in (sym (none_at_end text (s.start + blank_len bytes) s.end (omega (arith, eqb-true (s.start + blank_len bytes) s.end f)))) ∙ ap lines_in (sym rest) ∙ n.1.1.0 in
                rw (nonzero, f, first.is, n.1.0, ← none) refl)
            | inr f ↦ (
                let later : lines_in (bytes_at text (s.start + blank_len bytes) s.end) ≡ first.rest = ap lines_in (sym rest) ∙ n.1.1.0 in
                rw (nonzero, f, first.is, n.1.0, later) refl)
          ])
    ]

-- the blocks without the empty line before anything else
pub blocks_shrunk : (text : List ℕ) (xs : List Item) → All (ItemWithin text) xs → blocks_at text (shrink_first text xs) ≡ drop (tail_len (blocks_at text xs)) (blocks_at text xs)
blocks_shrunk text [] all = refl
blocks_shrunk text (x ∷ xs) all = elim (two (is_gone x)) [
  | inl g ↦ (let n = gone_none x g in rw (g, n) (blocks_shrunk text xs (All-tail (ItemWithin text) x xs all)))
  | inr g ↦ rw g (item_shrunk text x (blocks_at text xs) g (All-head (ItemWithin text) x xs all))
]
  where
    gone_none : (x : Item) → is_gone x ≡ true → item_blocks text x ≡ []
    gone_none Gone g = refl
    gone_none (Lines s) g = cc
    gone_none (Held r) g = cc

pub shrunk_within : (text : List ℕ) (x : Item) → ItemWithin text x → ItemWithin text (or_else x (shrunk text x))
shrunk_within text Gone is = tt
shrunk_within text (Held r) is = is
shrunk_within text (Lines s) is =
    let bytes = bytes_at text s.start s.end in
    let len : length bytes ≡ s.end - s.start = length_bytes text s.start s.end (omega (arith, is.some)) is.within in
    elim (two (nat_eq (blank_len bytes) 0)) [
      | inl e ↦ rw e is
      | inr e ↦ elim (two (nat_eq (s.start + blank_len bytes) s.end)) [
        | inl f ↦ rw (e, f) tt
        | inr f ↦ rw (e, f) (record { some = omega (arith, len, blank_within bytes, is.some, eqb-false (s.start + blank_len bytes) s.end f); within = is.within })
      ]
    ]

pub first_within : (text : List ℕ) (xs : List Item) → All (ItemWithin text) xs → All (ItemWithin text) (shrink_first text xs)
first_within text [] all = all
first_within text (x ∷ xs) all = elim (two (is_gone x)) [
  | inl g ↦ rw g (All-cons (ItemWithin text) x (shrink_first text xs) (All-head (ItemWithin text) x xs all) (first_within text xs (All-tail (ItemWithin text) x xs all)))
  | inr g ↦ rw g (All-cons (ItemWithin text) (or_else x (shrunk text x)) xs (shrunk_within text x (All-head (ItemWithin text) x xs all)) (All-tail (ItemWithin text) x xs all))
]

holds_shrunk : (text : List ℕ) (k : Kind) (x : Item) → holds k (or_else x (shrunk text x)) ≡ holds k x
holds_shrunk text k Gone = refl
holds_shrunk text k (Held r) = refl
holds_shrunk text k (Lines s) = by_cut (nat_eq (blank_len (bytes_at text s.start s.end)) 0) (nat_eq (s.start + blank_len (bytes_at text s.start s.end)) s.end)
  where
    by_cut : (t u : Bool) → holds k (or_else (Lines s) (cond t None (cond u (Some Gone) (Some (Lines (record { start = s.start + blank_len (bytes_at text s.start s.end); end = s.end })))))) ≡ false
    by_cut true u = refl
    by_cut false true = refl
    by_cut false false = refl

pub places_shrunk : (text : List ℕ) (k : Kind) (j : ℕ) (xs : List Item) → places_from k j (shrink_first text xs) ≡ places_from k j xs
places_shrunk text k j [] = refl
places_shrunk text k j (x ∷ xs) = elim (two (is_gone x)) [
  | inl g ↦ rw g (ap (λ (ps : List ℕ). cond (holds k x) (j ∷ ps) ps) (places_shrunk text k (j + 1) xs))
  | inr g ↦ rw g (ap (λ t. cond t (j ∷ places_from k (j + 1) xs) (places_from k (j + 1) xs)) (holds_shrunk text k x))
]

-- the first item where something stands, without its empty line
pub set_shrunk : (text : List ℕ) (xs : List Item) (i : ℕ) (x y : Item) (r : List Item) → i < length xs → x ≡ get_or xs i x → is_gone x ≡ false → shrunk text x ≡ Some y → take i xs ++ shrink_first text (drop i xs) ≡ r → set xs i y ≡ r
set_shrunk text [] i x y r lt is g e same = absurd (omega arith)
set_shrunk text (z ∷ zs) zero x y r lt is g e same =
    let front : shrink_first text (z ∷ zs) ≡ y ∷ zs = ap (λ (w : Item). shrink_first text (w ∷ zs)) (sym is) ∙ rw (g, e) refl in
    sym front ∙ same
set_shrunk text (z ∷ zs) (suc i) x y r lt is g e same = ap (λ l. z ∷ l) (set_shrunk text zs i x y (take i zs ++ shrink_first text (drop i zs)) (omega arith) is g e refl) ∙ same
