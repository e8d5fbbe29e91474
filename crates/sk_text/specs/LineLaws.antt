-- The lines of a text: the first of them, all joined, where each stands, how each ends.
use Rattle.std.proofs.Common.{◌≡◌, ◌⊎◌, ℕ, zero, suc, ◌+◌, ◌-◌, ◌<◌, ◌≤◌, List, [], ◌∷◌, ◌++◌, Bool, true, false, cond, nat_eq, length, take, drop, map, get_or, refl, ap, sym, ◌∙◌, append_assoc, arith, inl, inr, subst, length-append, length-drop}
use Rattle.std.specs.List.{All, flat_map}
use Rattle.std.proofs.lemmas.List.Elements.{All-nil, All-cons}
use Rattle.std.proofs.Math.Seq.{drop-append_seam, take-append_seam, get_or-append_seam}
use Rattle.std.proofs.lemmas.Bool.{ne_eqb, eq-eqb, eqb-true, cases_eq}
use Rattle.std.proofs.lemmas.List.{take-append-drop, append-nil, take_at, drop_at, map-append}
use Rattle.sk_text.specs.Lines.{TextLine, line_at, line_bytes, joined, onto_first, whole_lines, end_len, cut, lines_in, placed_from, lines_of, IsPart, is_empty, NoFeed, ends_in_return, IsEnd, IsEnded, IsUnended, AreLines}

two : (t : Bool) → (t ≡ true) ⊎ (t ≡ false)
two true = inl refl
two false = inr refl

-- ---- the first line

starts : (b : ℕ) (bs : List ℕ) → b ≡ 10 → whole_lines (b ∷ bs) ≡ (b ∷ []) ∷ whole_lines bs
starts b bs is = rw (eq-eqb b 10 is) refl

goes_on : (b : ℕ) (bs : List ℕ) → (b ≡ 10 → ⊥) → whole_lines (b ∷ bs) ≡ onto_first b (whole_lines bs)
goes_on b bs not = rw (ne_eqb b 10 not) refl

pub first_line : (xs : List ℕ) (k : ℕ) → k < length xs → get_or xs k 0 ≡ 10 → ((j : ℕ) → j < k → get_or xs j 0 ≡ 10 → ⊥) → whole_lines xs ≡ take (suc k) xs ∷ whole_lines (drop (suc k) xs)
first_line [] k lt is clear = absurd (omega arith)
first_line (b ∷ bs) zero lt is clear = starts b bs is
first_line (b ∷ bs) (suc k) lt is clear = goes_on b bs (clear 0 (omega arith)) ∙ ap (onto_first b) (first_line bs k (omega arith) is (λ j below. clear (suc j) (omega arith)))

pub only_line : (xs : List ℕ) → 0 < length xs → ((j : ℕ) → j < length xs → get_or xs j 0 ≡ 10 → ⊥) → whole_lines xs ≡ xs ∷ []
only_line [] lt clear = absurd (omega arith)
only_line (b ∷ []) lt clear = goes_on b [] (clear 0 (omega arith))
only_line (b ∷ x ∷ bs) lt clear = goes_on b (x ∷ bs) (clear 0 (omega arith)) ∙ ap (onto_first b) (only_line (x ∷ bs) (omega arith) (λ j below. clear (suc j) (omega arith)))

-- ---- all lines joined

abbrev all : List (List ℕ) → List ℕ
all ls = flat_map (λ (l : List ℕ). l) ls

onto_all : (b : ℕ) (ls : List (List ℕ)) → all (onto_first b ls) ≡ b ∷ all ls
onto_all b [] = refl
onto_all b (l ∷ ls) = refl

whole_all : (xs : List ℕ) → all (whole_lines xs) ≡ xs
whole_all [] = refl
whole_all (b ∷ bs) = elim (cases_eq b 10) [
  | inl is ↦ ap all (starts b bs is) ∙ ap (λ r. b ∷ r) (whole_all bs)
  | inr not ↦ ap all (goes_on b bs not) ∙ onto_all b (whole_lines bs) ∙ ap (λ r. b ∷ r) (whole_all bs)
]

cut_bytes : (l : List ℕ) → line_bytes (cut l) ≡ l
cut_bytes l = take-append-drop (length l - end_len l) l

cuts_joined : (ls : List (List ℕ)) → joined (map cut ls) ≡ all ls
cuts_joined [] = refl
cuts_joined (l ∷ ls) = ap (λ r. r ++ joined (map cut ls)) (cut_bytes l) ∙ ap (λ r. l ++ r) (cuts_joined ls)

-- the bodies and ends of a text's lines, joined, are the text
pub lines_joined : (xs : List ℕ) → joined (lines_in xs) ≡ xs
lines_joined xs = cuts_joined (whole_lines xs) ∙ whole_all xs

pub placed_unplaced : (at : ℕ) (ls : List (List ℕ)) → map line_at (placed_from at ls) ≡ map cut ls
placed_unplaced at [] = refl
placed_unplaced at (l ∷ ls) = ap (λ r. cut l ∷ r) (placed_unplaced (at + length l) ls)

pub placed_joined : (xs : List ℕ) → joined (map line_at (lines_of xs)) ≡ xs
placed_joined xs = ap joined (placed_unplaced 0 (whole_lines xs)) ∙ lines_joined xs

-- ---- where each line stands

end_short : (l : List ℕ) → end_len l ≤ 2
unfolding end_len
end_short l = by_bytes (nat_eq (get_or l (length l - 1) 0) 10) (nat_eq (get_or l (length l - 2) 0) 13)
  where
    by_bytes : (s t : Bool) → cond s (cond t 2 1) 0 ≤ 2
    by_bytes true true = omega arith
    by_bytes true false = omega arith
    by_bytes false t = omega arith

ending_short : (l : List ℕ) → length (cut l).ending ≤ 2
ending_short l = omega (arith, end_short l, length-drop (length l - end_len l) l)

one_part : (front l rest : List ℕ) → IsPart (front ++ (l ++ rest)) (record { at = length front; line = cut l })
one_part front l rest = record {
  within = rw (cut_bytes l) (omega (arith, length-append front (l ++ rest), length-append l rest));
  bytes = rw (cut_bytes l, drop-append_seam, take-append_seam) refl;
  short = ending_short l;
}

parts_from : (front : List ℕ) (ls : List (List ℕ)) → All (IsPart (front ++ all ls)) (placed_from (length front) ls)
parts_from front [] = All-nil (IsPart (front ++ []))
parts_from front (l ∷ ls) = All-cons (IsPart (front ++ (l ++ all ls))) (record { at = length front; line = cut l }) (placed_from (length front + length l) ls)
    (one_part front l (all ls))
    (rw (← append_assoc front l (all ls), ← length-append front l) (parts_from (front ++ l) ls))

pub lines_parts : (xs : List ℕ) → All (IsPart xs) (lines_of xs)
lines_parts xs = subst (λ (t : List ℕ). All (IsPart t) (lines_of xs)) (whole_all xs) (parts_from [] (whole_lines xs))

count_onto : (b : ℕ) (ls : List (List ℕ)) → length (onto_first b ls) ≤ suc (length ls)
count_onto b [] = omega arith
count_onto b (l ∷ ls) = omega arith

count_whole : (xs : List ℕ) → length (whole_lines xs) ≤ length xs
count_whole [] = omega arith
count_whole (b ∷ bs) = elim (cases_eq b 10) [
  | inl is ↦ rw (starts b bs is) (omega (arith, count_whole bs))
  | inr not ↦ rw (goes_on b bs not) (omega (arith, count_whole bs, count_onto b (whole_lines bs)))
]

count_placed : (at : ℕ) (ls : List (List ℕ)) → length (placed_from at ls) ≡ length ls
count_placed at [] = refl
count_placed at (l ∷ ls) = ap suc (count_placed (at + length l) ls)

pub lines_few : (xs : List ℕ) → length (lines_of xs) ≤ length xs
lines_few xs = rw (count_placed 0 (whole_lines xs)) (count_whole xs)

-- ---- how each line ends

record Fed (l : List ℕ) : Type 0 where
  front : List ℕ
  bytes : l ≡ front ++ 10 ∷ []
  clear : NoFeed front

record Unfed (l : List ℕ) : Type 0 where
  first : ℕ
  more : List ℕ
  bytes : l ≡ first ∷ more
  clear : NoFeed (first ∷ more)

abbrev AreWhole : List (List ℕ) → Type 0
AreWhole [] = Unit {0}
AreWhole (l ∷ []) = Fed l ⊎ Unfed l
AreWhole (l ∷ (m ∷ ms)) = Fed l × AreWhole (m ∷ ms)

whole_cons : (l : List ℕ) (ls : List (List ℕ)) → Fed l → AreWhole ls → AreWhole (l ∷ ls)
whole_cons l [] fed are = inl fed
whole_cons l (m ∷ ms) fed are = (fed, are)

fed_cons : (b : ℕ) (l : List ℕ) → nat_eq b 10 ≡ false → Fed l → Fed (b ∷ l)
fed_cons b l not fed = record { front = b ∷ fed.front; bytes = ap (λ r. b ∷ r) fed.bytes; clear = (not, fed.clear) }

unfed_cons : (b : ℕ) (l : List ℕ) → nat_eq b 10 ≡ false → Unfed l → Unfed (b ∷ l)
unfed_cons b l not un = record { first = b; more = un.first ∷ un.more; bytes = ap (λ r. b ∷ r) un.bytes; clear = (not, un.clear) }

whole_onto : (b : ℕ) (ls : List (List ℕ)) → nat_eq b 10 ≡ false → AreWhole ls → AreWhole (onto_first b ls)
whole_onto b [] not are = inr (record { first = b; more = []; bytes = refl; clear = (not, tt) })
whole_onto b (l ∷ []) not (inl fed) = inl (fed_cons b l not fed)
whole_onto b (l ∷ []) not (inr un) = inr (unfed_cons b l not un)
whole_onto b (l ∷ (m ∷ ms)) not are = (fed_cons b l not are.0, are.1)

are_whole : (xs : List ℕ) → AreWhole (whole_lines xs)
are_whole [] = tt
are_whole (b ∷ bs) = elim (two (nat_eq b 10)) [
  | inl is ↦ rw is (whole_cons (b ∷ []) (whole_lines bs) (record { front = []; bytes = ap (λ x. x ∷ []) (eqb-true b 10 is); clear = tt }) (are_whole bs))
  | inr not ↦ rw not (whole_onto b (whole_lines bs) not (are_whole bs))
]

clear_at : (l : List ℕ) (i : ℕ) → i < length l → NoFeed l → nat_eq (get_or l i 0) 10 ≡ false
clear_at [] i lt clear = absurd (omega arith)
clear_at (x ∷ l) zero lt clear = clear.0
clear_at (x ∷ l) (suc i) lt clear = clear_at l i (omega arith) clear.1

end_unfed : (l : List ℕ) → nat_eq (get_or l (length l - 1) 0) 10 ≡ false → end_len l ≡ 0
unfolding end_len
end_unfed l e = rw e refl

last_fed : (front : List ℕ) → get_or (front ++ 10 ∷ []) (length (front ++ 10 ∷ []) - 1) 0 ≡ 10
last_fed front =
    let n : length (front ++ 10 ∷ []) - 1 ≡ length front = omega (arith, length-append front (10 ∷ [])) in
    rw (n, get_or-append_seam front 10 [] 0) refl

-- the byte before the line feed
return_before : (front : List ℕ) → nat_eq (get_or (front ++ 10 ∷ []) (length (front ++ 10 ∷ []) - 2) 0) 13 ≡ ends_in_return front
return_before [] = refl
return_before (b ∷ []) = refl
return_before (b ∷ (c ∷ cs)) =
    let n : length (b ∷ (c ∷ cs) ++ 10 ∷ []) - 2 ≡ suc (length ((c ∷ cs) ++ 10 ∷ []) - 2) = omega (arith, length-append cs (10 ∷ [])) in
    rw n (return_before (c ∷ cs))

end_fed : (front : List ℕ) → end_len (front ++ 10 ∷ []) ≡ cond (ends_in_return front) 2 1
unfolding end_len
end_fed front = rw (last_fed front, return_before front) refl

split_return : (front : List ℕ) → ends_in_return front ≡ true → NoFeed front → (body : List ℕ) × ((front ≡ body ++ 13 ∷ []) × NoFeed body)
split_return [] e clear = cc
split_return (b ∷ []) e clear = ([], (ap (λ x. x ∷ []) (eqb-true b 13 e), tt))
split_return (b ∷ (c ∷ cs)) e clear =
    let more = split_return (c ∷ cs) e clear.1 in
    (b ∷ more.0, (ap (λ r. b ∷ r) more.1.0, (clear.0, more.1.1)))

-- a line that is its body and an end as long as its bytes have is cut into these
cut_line : (l : TextLine) → end_len (line_bytes l) ≡ length l.ending → cut (line_bytes l) ≡ l
cut_line l is =
    let n : length (l.body ++ l.ending) - length l.ending ≡ length l.body = omega (arith, length-append l.body l.ending) in
    rw (is, n, take_at l.body l.ending (length l.body) refl, drop_at l.body l.ending (length l.body) refl) refl

fed_line : (l : TextLine) → IsEnded l → (front : List ℕ) × ((line_bytes l ≡ front ++ 10 ∷ []) × (NoFeed front × (end_len (line_bytes l) ≡ length l.ending)))
fed_line l is = by_end is.end
  where
    no_feed : (body : List ℕ) → NoFeed body → NoFeed (body ++ 13 ∷ [])
    no_feed [] clear = (refl, tt)
    no_feed (b ∷ body) clear = (clear.0, no_feed body clear.1)

    return_last : (body : List ℕ) → ends_in_return (body ++ 13 ∷ []) ≡ true
    return_last [] = refl
    return_last (b ∷ []) = refl
    return_last (b ∷ (c ∷ cs)) = return_last (c ∷ cs)

    by_end : IsEnd l.body l.ending → (front : List ℕ) × ((line_bytes l ≡ front ++ 10 ∷ []) × (NoFeed front × (end_len (line_bytes l) ≡ length l.ending)))
    by_end (inl e) = (l.body, (ap (λ x. l.body ++ x) e.0, (is.clear, rw e.0 (end_fed l.body ∙ rw e.1 refl))))
    by_end (inr e) =
        let bytes : l.body ++ (13 ∷ 10 ∷ []) ≡ (l.body ++ 13 ∷ []) ++ 10 ∷ [] = sym (append_assoc l.body (13 ∷ []) (10 ∷ [])) in
        (l.body ++ 13 ∷ [], (ap (λ x. l.body ++ x) e ∙ bytes, (no_feed l.body is.clear, rw e (ap end_len bytes ∙ end_fed (l.body ++ 13 ∷ []) ∙ rw (return_last l.body) refl))))

fed_ended : (l : List ℕ) → Fed l → IsEnded (cut l)
fed_ended l fed = elim (two (ends_in_return fed.front)) [
  | inl e ↦ (
      let split = split_return fed.front e fed.clear in
      let t : TextLine = record { body = split.0; ending = 13 ∷ 10 ∷ [] } in
      let is : IsEnded t = record { clear = split.1.1; end = inr refl } in
      let bytes : l ≡ line_bytes t = fed.bytes ∙ ap (λ x. x ++ 10 ∷ []) split.1.0 ∙ append_assoc split.0 (13 ∷ []) (10 ∷ []) in
      subst IsEnded (sym (ap cut bytes ∙ cut_line t (fed_line t is).1.1.1)) is)
  | inr e ↦ (
      let t : TextLine = record { body = fed.front; ending = 10 ∷ [] } in
      let is : IsEnded t = record { clear = fed.clear; end = inl (refl, e) } in
      subst IsEnded (sym (ap cut fed.bytes ∙ cut_line t (fed_line t is).1.1.1)) is)
]

unfed_unended : (l : List ℕ) → Unfed l → IsUnended (cut l)
unfed_unended l un =
    let t : TextLine = record { body = un.first ∷ un.more; ending = [] } in
    let is : IsUnended t = record { clear = un.clear; some = refl; none = refl } in
    let same : line_bytes t ≡ un.first ∷ un.more = append-nil (un.first ∷ un.more) in
    let none : end_len (line_bytes t) ≡ 0 = rw same (end_unfed (un.first ∷ un.more) (clear_at (un.first ∷ un.more) (length (un.first ∷ un.more) - 1) (omega arith) un.clear)) in
    subst IsUnended (sym (ap cut (un.bytes ∙ sym same) ∙ cut_line t none)) is

cuts_ended : (ls : List (List ℕ)) → AreWhole ls → AreLines (map cut ls)
cuts_ended [] are = tt
cuts_ended (l ∷ []) (inl fed) = inl (fed_ended l fed)
cuts_ended (l ∷ []) (inr un) = inr (unfed_unended l un)
cuts_ended (l ∷ (m ∷ ms)) are = (fed_ended l are.0, cuts_ended (m ∷ ms) are.1)

-- the lines of a text are lines as a text has them
pub lines_ended : (xs : List ℕ) → AreLines (lines_in xs)
lines_ended xs = cuts_ended (whole_lines xs) (are_whole xs)

pub placed_ended : (xs : List ℕ) → AreLines (map line_at (lines_of xs))
placed_ended xs = rw (placed_unplaced 0 (whole_lines xs)) (lines_ended xs)

-- ---- lines joined and split again

whole_front : (a rest : List ℕ) → NoFeed a → whole_lines (a ++ (10 ∷ rest)) ≡ (a ++ (10 ∷ [])) ∷ whole_lines rest
whole_front [] rest clear = refl
whole_front (b ∷ a) rest clear = rw (clear.0, whole_front a rest clear.1) refl

whole_last : (b : ℕ) (a : List ℕ) → NoFeed (b ∷ a) → whole_lines (b ∷ a) ≡ (b ∷ a) ∷ []
whole_last b [] clear = rw clear.0 refl
whole_last b (c ∷ a) clear = rw (clear.0, whole_last c a clear.1) refl

ended_line : (l : TextLine) (rest : List ℕ) → IsEnded l → lines_in (line_bytes l ++ rest) ≡ l ∷ lines_in rest
ended_line l rest is =
    let fed = fed_line l is in
    ap (λ t. lines_in (t ++ rest)) fed.1.0
    ∙ ap lines_in (append_assoc fed.0 (10 ∷ []) rest)
    ∙ ap (map cut) (whole_front fed.0 rest fed.1.1.0)
    ∙ ap (λ t. cut t ∷ lines_in rest) (sym fed.1.0)
    ∙ ap (λ m. m ∷ lines_in rest) (cut_line l fed.1.1.1)

unended_line : (l : TextLine) → IsUnended l → lines_in (line_bytes l) ≡ l ∷ []
unended_line l is = by_body l.body l.ending is.clear is.some is.none
  where
    by_body : (body ending : List ℕ) → NoFeed body → is_empty body ≡ false → ending ≡ [] → lines_in (body ++ ending) ≡ record { body = body; ending = ending } ∷ []
    by_body [] ending clear some none = cc
    by_body (b ∷ body) ending clear some none =
        let t : TextLine = record { body = b ∷ body; ending = [] } in
        let same : line_bytes t ≡ b ∷ body = append-nil (b ∷ body) in
        let zero_end : end_len (line_bytes t) ≡ 0 = rw same (end_unfed (b ∷ body) (clear_at (b ∷ body) (length (b ∷ body) - 1) (omega arith) clear)) in
        rw none (ap lines_in same ∙ ap (map cut) (whole_last b body clear) ∙ ap (λ x. cut x ∷ []) (sym same) ∙ ap (λ m. m ∷ []) (cut_line t zero_end))

-- lines that are joined and split again are the same lines
pub lines_again : (ls : List TextLine) → AreLines ls → lines_in (joined ls) ≡ ls
lines_again [] is = refl
lines_again (l ∷ []) (inl is) = ended_line l [] is
lines_again (l ∷ []) (inr is) = ap lines_in (append-nil (line_bytes l)) ∙ unended_line l is
lines_again (l ∷ (m ∷ ms)) is = ended_line l (joined (m ∷ ms)) is.0 ∙ ap (λ t. l ∷ t) (lines_again (m ∷ ms) is.1)

-- ---- two texts, the first of which ends with a line feed

whole_append : (xs ys : List ℕ) → 0 < length xs → get_or xs (length xs - 1) 0 ≡ 10 → whole_lines (xs ++ ys) ≡ whole_lines xs ++ whole_lines ys
whole_append [] ys some feed = absurd (omega arith)
whole_append (b ∷ []) ys some feed = rw (eq-eqb b 10 feed) refl
whole_append (b ∷ (c ∷ xs)) ys some feed =
    let n : length (b ∷ (c ∷ xs)) - 1 ≡ suc (length (c ∷ xs) - 1) = omega arith in
    let more : whole_lines ((c ∷ xs) ++ ys) ≡ whole_lines (c ∷ xs) ++ whole_lines ys = whole_append (c ∷ xs) ys (omega arith) (rw n at feed) in
    elim (two (nat_eq b 10)) [
      | inl e ↦ rw e (ap (λ ls. (b ∷ []) ∷ ls) more)
      | inr e ↦ rw e (ap (onto_first b) more ∙ onto-append b c xs (whole_lines ys))
    ]
  where
    onto_some : (b : ℕ) (ls ms : List (List ℕ)) → 0 < length ls → onto_first b (ls ++ ms) ≡ onto_first b ls ++ ms
    onto_some b [] ms some = absurd (omega arith)
    onto_some b (l ∷ ls) ms some = refl

    some_line : (c : ℕ) (xs : List ℕ) → 0 < length (whole_lines (c ∷ xs))
    some_line c xs = elim (two (nat_eq c 10)) [ inl e ↦ rw e (omega arith) | inr e ↦ rw e (some_onto c (whole_lines xs)) ]
      where
        some_onto : (c : ℕ) (ls : List (List ℕ)) → 0 < length (onto_first c ls)
        some_onto c [] = omega arith
        some_onto c (l ∷ ls) = omega arith

    onto-append : (b c : ℕ) (xs : List ℕ) (ms : List (List ℕ)) → onto_first b (whole_lines (c ∷ xs) ++ ms) ≡ onto_first b (whole_lines (c ∷ xs)) ++ ms
    onto-append b c xs ms = onto_some b (whole_lines (c ∷ xs)) ms (some_line c xs)

pub lines-append : (xs ys : List ℕ) → 0 < length xs → get_or xs (length xs - 1) 0 ≡ 10 → lines_in (xs ++ ys) ≡ lines_in xs ++ lines_in ys
lines-append xs ys some feed = ap (map cut) (whole_append xs ys some feed) ∙ map-append cut (whole_lines xs) (whole_lines ys)

-- a line of a text is the only line of its own bytes
pub one_line : (l : TextLine) (ls : List TextLine) → AreLines (l ∷ ls) → lines_in (line_bytes l) ≡ l ∷ []
one_line l [] are = ap lines_in (sym (append-nil (line_bytes l))) ∙ lines_again (l ∷ []) are
one_line l (m ∷ ms) are = ap lines_in (sym (append-nil (line_bytes l))) ∙ lines_again (l ∷ []) (inl are.0)

pub later_lines : (l : TextLine) (ls : List TextLine) → AreLines (l ∷ ls) → AreLines ls
later_lines l [] are = tt
later_lines l (m ∷ ms) are = are.1
