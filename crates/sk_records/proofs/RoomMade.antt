-- Room among the items: what stands there, and where.
use Rattle.std.proofs.Common.{◌≡◌, inl, inr, ℕ, ◌+◌, ◌<◌, ◌≤◌, List, [], ◌∷◌, ◌++◌, map, length, take, drop, refl, ap, sym, ◌∙◌, true, false, arith, subst, Vec, length-append}
use Rattle.std.specs.Prelude.{nat_le, OnOk, OnErr}
use Rattle.std.proofs.lemmas.Bool.{le-leb, lt-leb}
use Rattle.std.proofs.Common.{Result, Ok, Err}
use Rattle.std.specs.List.{All}
use Rattle.std.proofs.lemmas.List.{take_at, drop_at, take-append-drop, map-append, length-take-le}
use Rattle.std.proofs.lemmas.List.Elements.{All-nil, All-cons, All-head, All-tail, All-append}
use Rattle.sk_records.specs.declared.kinds.Kind.{Kind}
use Rattle.sk_records.specs.declared.kinds.Kind.TheVariants.{Group, Param, Request, Entity, Constraint, Style}
use Rattle.sk_records.specs.declared.items.Item.{Item}
use Rattle.sk_records.specs.declared.items.Item.TheVariants.{Gone, Lines, Held}
use Rattle.sk_records.specs.Holding.Held.{blocks_at, ItemWithin}
use Rattle.sk_records.specs.Holding.Places.{holds, places_from, all_places, lists_of}
use Rattle.sk_records.specs.Holding.Removed.{is_gone}
use Rattle.sk_records.specs.Holding.Inserted.{shifted, HasRoom, StandsAlike}
use Rattle.sk_records.specs.Laws.MadeAnew.{two}
use Rattle.sk_records.proofs.HeldLines.{blocks-append, all_left, all_right}
use Rattle.sk_records.proofs.BookDropped.{places-append}
use Rattle.sk_records.proofs.Shifted.{places_below}

-- ---- what stands

gone_is : (x : Item) → is_gone x ≡ true → x ≡ Gone
gone_is Gone e = refl
gone_is (Lines s) e = cc
gone_is (Held r) e = cc

pub nothing_there : (text : List ℕ) (xs : List Item) → All (λ (x : Item). is_gone x ≡ true) xs → blocks_at text xs ≡ []
nothing_there text [] all = refl
nothing_there text (x ∷ xs) all =
    let P : Item → Type 0 = λ x. is_gone x ≡ true in
    rw (gone_is x (All-head P x xs all)) (nothing_there text xs (All-tail P x xs all))

nothing_within : (text : List ℕ) (xs : List Item) → All (λ (x : Item). is_gone x ≡ true) xs → All (ItemWithin text) xs
nothing_within text [] all = All-nil (ItemWithin text)
nothing_within text (x ∷ xs) all =
    let P : Item → Type 0 = λ x. is_gone x ≡ true in
    All-cons (ItemWithin text) x xs (rw (gone_is x (All-head P x xs all)) tt) (nothing_within text xs (All-tail P x xs all))

pub no_places : (k : Kind) (j : ℕ) (xs : List Item) → All (λ (x : Item). is_gone x ≡ true) xs → places_from k j xs ≡ []
no_places k j [] all = refl
no_places k j (x ∷ xs) all =
    let P : Item → Type 0 = λ x. is_gone x ≡ true in
    rw (gone_is x (All-head P x xs all)) (no_places k (j + 1) xs (All-tail P x xs all))

-- ---- the places

moved_places : (k : Kind) (j n : ℕ) (b : List Item) (at : ℕ) → at ≤ j → places_from k (j + n) b ≡ map (shifted at n) (places_from k j b)
moved_places k j n [] at le = refl
moved_places k j n (x ∷ b) at le =
    let m : j + n + 1 ≡ j + 1 + n = omega arith in
    let t : nat_le at j ≡ true = le-leb at j le in
    elim (two (holds k x)) [
      | inl e ↦ rw (e, m, t) (ap (λ l. (j + n) ∷ l) (moved_places k (j + 1) n b at (omega arith)))
      | inr e ↦ rw (e, m) (moved_places k (j + 1) n b at (omega arith))
    ]

still_places : (n at : ℕ) (ps : List ℕ) → All (λ (p : ℕ). p < at) ps → map (shifted at n) ps ≡ ps
still_places n at [] all = refl
still_places n at (p ∷ ps) all =
    let P : ℕ → Type 0 = λ p. p < at in
    let t : nat_le at p ≡ false = lt-leb at p (All-head P p ps all) in
    rw t (ap (λ l. p ∷ l) (still_places n at ps (All-tail P p ps all)))

-- the places after items without records were put between others
pub put_places : (k : Kind) (a n b : List Item) → ((j : ℕ) → places_from k j n ≡ []) → map (shifted (length a) (length n)) (places_from k 0 (a ++ b)) ≡ places_from k 0 (a ++ (n ++ b))
put_places k a n b none =
    let z : 0 + length a ≡ length a = omega arith in
    ap (map (shifted (length a) (length n))) (places-append k 0 a b)
    ∙ map-append (shifted (length a) (length n)) (places_from k 0 a) (places_from k (0 + length a) b)
    ∙ ap (λ (l : List ℕ). l ++ map (shifted (length a) (length n)) (places_from k (0 + length a) b)) (still_places (length n) (length a) (places_from k 0 a) (places_below k 0 a (length a) (omega arith)))
    ∙ ap (λ (l : List ℕ). places_from k 0 a ++ l) (sym (moved_places k (0 + length a) (length n) b (length a) (omega arith)))
    ∙ sym (places-append k 0 a (n ++ b) ∙ ap (λ (l : List ℕ). places_from k 0 a ++ l) (places-append k (0 + length a) n b ∙ ap (λ (l : List ℕ). l ++ places_from k (0 + length a + length n) b) (none (0 + length a))))

pub put_lists : (a n b : List Item) → ((k : Kind) (j : ℕ) → places_from k j n ≡ []) → map (λ (list : List ℕ). map (shifted (length a) (length n)) list) (all_places (a ++ b)) ≡ all_places (a ++ (n ++ b))
put_lists a n b none = rw (put_places Group a n b (none Group), put_places Param a n b (none Param), put_places Request a n b (none Request), put_places Entity a n b (none Entity), put_places Constraint a n b (none Constraint), put_places Style a n b (none Style)) refl

-- the lists of places after items without records were put at a place
pub lists_put : {A : Type 0} (items n : List Item) (at : ℕ) (old new : List (Vec ℕ A)) → at ≤ length items → ((k : Kind) (j : ℕ) → places_from k j n ≡ []) → lists_of old ≡ all_places items → lists_of new ≡ map (λ (list : List ℕ). map (shifted at (length n)) list) (lists_of old) → lists_of new ≡ all_places (take at items ++ (n ++ drop at items))
lists_put items n at old new le none index e =
    let len : length (take at items) ≡ at = length-take-le at items le in
    e ∙ ap (λ (ls : List (List ℕ)). map (λ (list : List ℕ). map (shifted at (length n)) list) ls) (index ∙ ap all_places (sym (take-append-drop at items)))
    ∙ ap (λ m. map (λ (list : List ℕ). map (shifted m (length n)) list) (all_places (take at items ++ drop at items))) (sym len)
    ∙ put_lists (take at items) n (drop at items) none

-- ---- room

pub alike_same : (items : List Item) (at : ℕ) → at ≤ length items → StandsAlike items items at
alike_same items at le = record { front = refl; below = le; behind = λ text. refl; within = λ text all. all }

pub alike_put : (items n new : List Item) (at : ℕ) → at ≤ length items → All (λ (x : Item). is_gone x ≡ true) n → new ≡ take at items ++ (n ++ drop at items) → StandsAlike items new at
alike_put items n new at le gone is =
    let len : length (take at items) ≡ at = length-take-le at items le in
    record {
      front = ap (take at) is ∙ take_at (take at items) (n ++ drop at items) at len;
      below = omega (arith, ap length is, len, length-append (take at items) (n ++ drop at items));
      behind = λ text. ap (λ l. blocks_at text (drop at l)) is ∙ ap (blocks_at text) (drop_at (take at items) (n ++ drop at items) at len) ∙ blocks-append text n (drop at items) ∙ ap (λ b. b ++ blocks_at text (drop at items)) (nothing_there text n gone);
      within = λ text all.
          (let whole : All (ItemWithin text) (take at items ++ drop at items) = subst (All (ItemWithin text)) (sym (take-append-drop at items)) all in
          subst (All (ItemWithin text)) (sym is) (All-append (ItemWithin text) (take at items) (n ++ drop at items) (all_left (ItemWithin text) (take at items) (drop at items) whole)
          (All-append (ItemWithin text) n (drop at items) (nothing_within text n gone) (all_right (ItemWithin text) (take at items) (drop at items) whole))));
    }

pub room_put : (items n new : List Item) (at : ℕ) → at ≤ length items → 2 ≤ length n → All (λ (x : Item). is_gone x ≡ true) n → new ≡ take at items ++ (n ++ drop at items) → HasRoom new at
room_put items [] new at le two_more gone is = absurd (omega arith)
room_put items (x ∷ []) new at le two_more gone is = absurd (omega arith)
room_put items (x ∷ (y ∷ n)) new at le two_more gone is =
    let P : Item → Type 0 = λ x. is_gone x ≡ true in
    let len : length (take at items) ≡ at = length-take-le at items le in
    let a : x ≡ Gone = gone_is x (All-head P x (y ∷ n) gone) in
    let b : y ≡ Gone = gone_is y (All-head P y n (All-tail P x (y ∷ n) gone)) in
    record { rest = n ++ drop at items; gone = ap (drop at) is ∙ drop_at (take at items) (x ∷ (y ∷ n) ++ drop at items) at len ∙ rw (a, b) refl }

-- ---- outcomes

pub both_ok : {T E : Type 0} (P Q : Type 0) (r : Result T E) → OnOk r P → OnOk r Q → OnOk r (P × Q)
both_ok P Q (Ok x) p q = (p, q)
both_ok P Q (Err e) p q = tt

pub both_err : {T E : Type 0} (P Q : Type 0) (r : Result T E) → OnErr r P → OnErr r Q → OnErr r (P × Q)
both_err P Q (Ok x) p q = tt
both_err P Q (Err e) p q = (p, q)

pub on_err_any : {T E P : Type 0} (r : Result T E) → P → OnErr r P
on_err_any (Ok x) p = tt
on_err_any (Err e) p = p
