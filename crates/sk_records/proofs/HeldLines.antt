-- Lines and blocks by their places in a text.
use Rattle.std.proofs.Common.{◌≡◌, ℕ, zero, suc, ◌+◌, ◌-◌, ◌<◌, ◌≤◌, List, [], ◌∷◌, ◌++◌, length, take, drop, map, get_or, set, refl, ap, sym, ◌∙◌, append_assoc, arith, length-append, length-drop}
use Rattle.std.specs.List.{All}
use Rattle.std.proofs.lemmas.List.Elements.{All-nil, All-cons, All-head, All-tail}
use Rattle.std.proofs.lemmas.List.{map-append, append-nil, length-take-le, get_or-take, get_or-drop}
use Rattle.std.proofs.lemmas.Grind.{flat_map-append}
use Rattle.std.proofs.Math.Seq.{take-add, set-append_seam}
use Rattle.sk_text.specs.Lines.{TextLine, lines_in, line_bytes}
use Rattle.sk_text.specs.LineLaws.{lines-append}
use Rattle.sk_records.specs.declared.rows.Span.{Span}
use Rattle.sk_records.specs.declared.items.Item.{Item}
use Rattle.sk_records.specs.declared.items.Item.TheVariants.{Lines}
use Rattle.sk_records.specs.Blocks.{Block, Loose}
use Rattle.sk_records.specs.Holding.Held.{bytes_at, line_at, item_blocks, blocks_at, IsWithin, IsJoined}

pub blocks-append : (text : List ℕ) (a b : List Item) → blocks_at text (a ++ b) ≡ blocks_at text a ++ blocks_at text b
blocks-append text a b = flat_map-append (item_blocks text) a b

pub drop_drop : {X : Type 0} (m n : ℕ) (xs : List X) → drop n (drop m xs) ≡ drop (m + n) xs
drop_drop zero n xs = ap (λ k. drop k xs) (omega arith)
drop_drop (suc m) n [] = none n ∙ sym (none (suc m + n))
  where
    none : {X : Type 0} (n : ℕ) → ◌≡◌ {A = List X} (drop n []) []
    none zero = refl
    none (suc n) = refl
drop_drop (suc m) n (x ∷ xs) =
    let k : suc m + n ≡ suc (m + n) = omega arith in
    rw k (drop_drop m n xs)

-- two stretches that meet
pub bytes_join : (text : List ℕ) (a b c : ℕ) → a ≤ b → b ≤ c → bytes_at text a c ≡ bytes_at text a b ++ bytes_at text b c
bytes_join text a b c ab bc =
    let n : c - a ≡ (b - a) + (c - b) = omega arith in
    let m : a + (b - a) ≡ b = omega arith in
    ap (λ k. take k (drop a text)) n ∙ take-add (b - a) (c - b) (drop a text) ∙ ap (λ x. take (b - a) (drop a text) ++ take (c - b) x) (drop_drop a (b - a) text ∙ ap (λ k. drop k text) m)

pub length_bytes : (text : List ℕ) (a b : ℕ) → a ≤ b → b ≤ length text → length (bytes_at text a b) ≡ b - a
length_bytes text a b ab within = length-take-le (b - a) (drop a text) (omega (arith, length-drop a text))

last_byte : (text : List ℕ) (a b : ℕ) → a < b → b ≤ length text → get_or (bytes_at text a b) (length (bytes_at text a b) - 1) 0 ≡ get_or text (b - 1) 0
last_byte text a b ab within =
    let n : length (bytes_at text a b) - 1 ≡ b - a - 1 = omega (arith, length_bytes text a b (omega arith) within) in
    let m : a + (b - a - 1) ≡ b - 1 = omega arith in
    ap (λ k. get_or (bytes_at text a b) k 0) n ∙ get_or-take (b - a) (drop a text) (b - a - 1) 0 (omega arith) ∙ get_or-drop a text (b - a - 1) 0 ∙ ap (λ k. get_or text k 0) m

pub line_bytes_at : (text : List ℕ) (s : Span) → IsWithin text s → line_bytes (line_at text s) ≡ bytes_at text s.start s.end
line_bytes_at text s is = sym (bytes_join text s.start s.body_end s.end is.body is.ending)

-- the item at the end of a list
pub split_last : {X : Type 0} (xs : List X) (x : X) → 0 < length xs → x ≡ get_or xs (length xs - 1) x → xs ≡ take (length xs - 1) xs ++ x ∷ []
split_last [] x some is = absurd (omega arith)
split_last (y ∷ []) x some is = ap (λ z. z ∷ []) (sym is)
split_last (y ∷ (z ∷ zs)) x some is =
    let n : length (y ∷ (z ∷ zs)) - 1 ≡ suc (length (z ∷ zs) - 1) = omega arith in
    let here : x ≡ get_or (z ∷ zs) (length (z ∷ zs) - 1) x = rw n at is in
    rw n (ap (λ l. y ∷ l) (split_last (z ∷ zs) x (omega arith) here))

pub set_last : {X : Type 0} (front : List X) (x y : X) (n : ℕ) → n ≡ length (front ++ x ∷ []) - 1 → set (front ++ x ∷ []) n y ≡ front ++ y ∷ []
set_last front x y n is =
    let m : n ≡ length front = omega (arith, is, length-append front (x ∷ [])) in
    rw m (set-append_seam front x [] y)

-- a line behind a stretch that it joins
pub blocks_joined : (text : List ℕ) (items : List Item) (start : ℕ) (s : Span) → IsJoined text items s.start start → IsWithin text s → lines_in (line_bytes (line_at text s)) ≡ line_at text s ∷ [] →
    blocks_at text (set items (length items - 1) (Lines (record { start = start; end = s.end }))) ≡ blocks_at text items ++ Loose (line_at text s) ∷ []
blocks_joined text items start s is within line =
    let old : Item = Lines (record { start = start; end = s.start }) in
    let new : Item = Lines (record { start = start; end = s.end }) in
    let some : 0 < length (bytes_at text start s.start) = omega (arith, length_bytes text start s.start (omega (arith, is.some)) is.within, is.some) in
    let feed : get_or (bytes_at text start s.start) (length (bytes_at text start s.start) - 1) 0 ≡ 10 = last_byte text start s.start is.some is.within ∙ is.feed in
    let joined : bytes_at text start s.end ≡ bytes_at text start s.start ++ line_bytes (line_at text s) =
    bytes_join text start s.start s.end (omega (arith, is.some)) (omega (arith, within.body, within.ending)) ∙ ap (λ x. bytes_at text start s.start ++ x) (sym (line_bytes_at text s within)) in
    let lines : lines_in (bytes_at text start s.end) ≡ lines_in (bytes_at text start s.start) ++ line_at text s ∷ [] =
    ap lines_in joined ∙ lines-append (bytes_at text start s.start) (line_bytes (line_at text s)) some feed ∙ ap (λ x. lines_in (bytes_at text start s.start) ++ x) line in
    ap (λ (xs : List Item). blocks_at text (set xs (length xs - 1) new)) is.last
    ∙ ap (blocks_at text) (set_last is.front old new (length (is.front ++ old ∷ []) - 1) refl)
    ∙ blocks-append text is.front (new ∷ [])
    ∙ ap (λ (x : List Block). blocks_at text is.front ++ (x ++ [])) (ap (map Loose) lines ∙ map-append Loose (lines_in (bytes_at text start s.start)) (line_at text s ∷ []))
    ∙ regroup (blocks_at text is.front) (map Loose (lines_in (bytes_at text start s.start))) (Loose (line_at text s))
    ∙ ap (λ x. x ++ Loose (line_at text s) ∷ []) (sym (blocks-append text is.front (old ∷ [])) ∙ ap (blocks_at text) (sym is.last))
  where
    regroup : (a b : List Block) (x : Block) → a ++ ((b ++ x ∷ []) ++ []) ≡ (a ++ (b ++ [])) ++ x ∷ []
    regroup a b x = ap (λ y. a ++ y) (append-nil (b ++ x ∷ []) ∙ ap (λ y. y ++ x ∷ []) (sym (append-nil b))) ∙ sym (append_assoc a (b ++ []) (x ∷ []))

-- a line that stands as a stretch by itself
pub blocks_alone : (text : List ℕ) (items : List Item) (s : Span) → IsWithin text s → lines_in (line_bytes (line_at text s)) ≡ line_at text s ∷ [] →
    blocks_at text (items ++ Lines (record { start = s.start; end = s.end }) ∷ []) ≡ blocks_at text items ++ Loose (line_at text s) ∷ []
blocks_alone text items s within line =
    blocks-append text items (Lines (record { start = s.start; end = s.end }) ∷ [])
    ∙ ap (λ (x : List ℕ). blocks_at text items ++ (map Loose (lines_in x) ++ [])) (sym (line_bytes_at text s within))
    ∙ ap (λ (x : List TextLine). blocks_at text items ++ (map Loose x ++ [])) line

-- a line of the text is not empty with its end
pub line_some : (text : List ℕ) (s : Span) → IsWithin text s → lines_in (line_bytes (line_at text s)) ≡ line_at text s ∷ [] → s.start < s.end
line_some text s is one = by_bytes (line_bytes (line_at text s)) (line_bytes_at text s is) one
  where
    by_bytes : (b : List ℕ) → b ≡ bytes_at text s.start s.end → lines_in b ≡ line_at text s ∷ [] → s.start < s.end
    by_bytes [] e f = cc
    by_bytes (x ∷ b) e f = omega (arith, ap length e, length_bytes text s.start s.end (omega (arith, is.body, is.ending)) is.within)

pub all_left : {X : Type 0} (P : X → Type 0) (a b : List X) → All P (a ++ b) → All P a
all_left P [] b all = All-nil P
all_left P (x ∷ a) b all = All-cons P x a (All-head P x (a ++ b) all) (all_left P a b (All-tail P x (a ++ b) all))

pub all_right : {X : Type 0} (P : X → Type 0) (a b : List X) → All P (a ++ b) → All P b
all_right P [] b all = all
all_right P (x ∷ a) b all = all_right P a b (All-tail P x (a ++ b) all)
