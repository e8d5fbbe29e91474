-- Places that are shifted.
use Rattle.std.proofs.Common.{◌≡◌, inl, inr, ℕ, suc, ◌+◌, ◌-◌, ◌<◌, ◌≤◌, List, [], ◌∷◌, ◌++◌, map, length, take, drop, get_or, set, refl, ap, sym, ◌∙◌, append_assoc, arith, Option, Some, None}
use Rattle.std.specs.Option.{option_or}
use Rattle.std.specs.List.{All}
use Rattle.std.proofs.lemmas.List.{drop_more, take_more_set, drop-set-lt}
use Rattle.std.proofs.lemmas.List.Elements.{All-nil, All-cons}
use Rattle.sk_records.specs.declared.kinds.Kind.{Kind}
use Rattle.sk_records.specs.declared.kinds.Kind.TheVariants.{Group, Param, Request, Entity, Constraint, Style}
use Rattle.sk_records.specs.declared.items.Item.{Item}
use Rattle.sk_records.specs.Kinds.{kinds_to}
use Rattle.sk_records.specs.Holding.Places.{holds, places_from, all_places}
use Rattle.sk_records.specs.Holding.Inserted.{last_of, nearest}
use Rattle.sk_records.specs.Laws.MadeAnew.{two}

-- an element that is still as it was
pub still : {X : Type 0} (old now : List X) (i : ℕ) (x : X) → drop i now ≡ drop i old → i < length now → i < length old → x ≡ get_or now i x → x ≡ get_or old i x
still old now i x rest lt lo is =
    let a : drop i now ≡ get_or now i x ∷ drop (i + 1) now = drop_more now i x lt in
    let b : drop i old ≡ get_or old i x ∷ drop (i + 1) old = drop_more old i x lo in
    let c : get_or now i x ∷ drop (i + 1) now ≡ get_or old i x ∷ drop (i + 1) old = sym a ∙ rest ∙ b in
    let d : get_or now i x ≡ get_or old i x = cc in
    is ∙ d

rest_still : {X : Type 0} (old now : List X) (i : ℕ) (x : X) → drop i now ≡ drop i old → i < length now → i < length old → drop (i + 1) now ≡ drop (i + 1) old
rest_still old now i x rest lt lo =
    let a : drop i now ≡ get_or now i x ∷ drop (i + 1) now = drop_more now i x lt in
    let b : drop i old ≡ get_or old i x ∷ drop (i + 1) old = drop_more old i x lo in
    let c : get_or now i x ∷ drop (i + 1) now ≡ get_or old i x ∷ drop (i + 1) old = sym a ∙ rest ∙ b in
    cc

-- one more element was mapped in its place
pub mapped_more : {X : Type 0} (f : X → X) (old now : List X) (i : ℕ) (x y : X) → drop i now ≡ drop i old → i < length now → i < length old → x ≡ get_or now i x → y ≡ f x →
    take i now ++ map f (drop i now) ≡ map f old → (take (i + 1) (set now i y) ++ map f (drop (i + 1) (set now i y)) ≡ map f old) × (drop (i + 1) (set now i y) ≡ drop (i + 1) old)
mapped_more f old now i x y rest lt lo is made same =
    let later : drop (i + 1) (set now i y) ≡ drop (i + 1) now = drop-set-lt (i + 1) now i y (omega arith) in
    let front : drop i now ≡ x ∷ drop (i + 1) now = drop_more now i x lt ∙ ap (λ z. z ∷ drop (i + 1) now) (sym is) in
    (rw (take_more_set now i y lt, later, made) (append_assoc (take i now) (f x ∷ []) (map f (drop (i + 1) now)) ∙ ap (λ l. take i now ++ map f l) (sym front) ∙ same), later ∙ rest_still old now i x rest lt lo)

last_or : (o : Option ℕ) (p : ℕ) (q : Option ℕ) → option_or (option_or o (Some p)) q ≡ option_or o (Some p)
last_or None p q = refl
last_or (Some x) p q = refl

pub last_is : (xs : List ℕ) (x : ℕ) → 0 < length xs → x ≡ get_or xs (length xs - 1) x → last_of xs ≡ Some x
last_is [] x some is = absurd (omega arith)
last_is (y ∷ []) x some is = ap Some (sym is)
last_is (y ∷ (z ∷ zs)) x some is =
    let n : length (y ∷ (z ∷ zs)) - 1 ≡ suc (length (z ∷ zs) - 1) = omega arith in
    let here : x ≡ get_or (z ∷ zs) (length (z ∷ zs) - 1) x = rw n at is in
    rw (last_is (z ∷ zs) x (omega arith) here) refl

-- the nearest kind is the kind itself where it has a record
pub nearest_own : (k : Kind) (items : List Item) (x : ℕ) → last_of (places_from k 0 items) ≡ Some x → Some x ≡ nearest (kinds_to k) items
nearest_own Group items x e = rw e refl
nearest_own Param items x e = rw e refl
nearest_own Request items x e = rw e refl
nearest_own Entity items x e = rw e refl
nearest_own Constraint items x e = rw e refl
nearest_own Style items x e = rw e refl

pub places_below : (k : Kind) (j : ℕ) (items : List Item) (m : ℕ) → j + length items ≤ m → All (λ (p : ℕ). p < m) (places_from k j items)
places_below k j [] m le = All-nil (λ (p : ℕ). p < m)
places_below k j (x ∷ xs) m le =
    let more = places_below k (j + 1) xs m (omega arith) in
    elim (two (holds k x)) [ inl e ↦ rw e (All-cons (λ (p : ℕ). p < m) j (places_from k (j + 1) xs) (omega arith) more) | inr e ↦ rw e more ]

weaker : (xs : List ℕ) (m n b : ℕ) → m + n ≤ b → All (λ (p : ℕ). p < m) xs → All (λ (p : ℕ). p + n < b) xs
weaker xs m n b le all = λ k d lt. let h = all k d lt in omega (arith, h)

-- no place passes the range of numbers where the items don't
pub lists_fit : (items : List Item) (n b : ℕ) → length items + n ≤ b → All (λ (list : List ℕ). All (λ (p : ℕ). p + n < b) list) (all_places items)
lists_fit items n b le =
    let Q : List ℕ → Type 0 = λ list. All (λ (p : ℕ). p + n < b) list in
    let one : (k : Kind) → Q (places_from k 0 items) = λ k. weaker (places_from k 0 items) (length items) n b le (places_below k 0 items (length items) (omega arith)) in
    let p : Kind → List ℕ = λ k. places_from k 0 items in
    All-cons Q (p Group) (p Param ∷ p Request ∷ p Entity ∷ p Constraint ∷ p Style ∷ []) (one Group)
    (All-cons Q (p Param) (p Request ∷ p Entity ∷ p Constraint ∷ p Style ∷ []) (one Param)
    (All-cons Q (p Request) (p Entity ∷ p Constraint ∷ p Style ∷ []) (one Request)
    (All-cons Q (p Entity) (p Constraint ∷ p Style ∷ []) (one Entity)
    (All-cons Q (p Constraint) (p Style ∷ []) (one Constraint)
    (All-cons Q (p Style) [] (one Style) (All-nil Q))))))
