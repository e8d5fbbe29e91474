-- A row taken from another, cell by cell.
use Rattle.std.proofs.Common.{set, get_or-set_other, get_or-set_same, ⊎_elim, ◌≢◌, true, ◌*ℤ◌, subst, ◌≡◌, ℕ, zero, suc, ◌<◌, ◌≤◌, ◌*◌, Option, Some, None, arith, refl, List, [], ◌∷◌, length, get_or, ℤ, pos}
use Rattle.std.specs.Prelude.{unsigned_abs}
use Rattle.std.proofs.lemmas.Int.{ints, unsigned_abs-mul}
use Rattle.std.proofs.Math.Nat.{mul-le-mul_left}
use Rattle.std.proofs.lemmas.Bool.{le-leb, cases_eq}
use Rattle.sk_num.specs.Limit.{IsInLimit, is_in_limit}
use Rattle.sk_elim.specs.Rows.{IsRow}
use Rattle.sk_elim.specs.ZeroLaws.{cell_less-still, cleared-still}
use Rattle.sk_elim.specs.Elimination.{cell, cell_less, row_less, cleared, greatest_cell}
use Rattle.sk_num.specs.Each.{cons_if}

pub cons_if-some : {A : Type 0} (o : Option A) (xs : Option (List A)) (y : A) (ys : List A) → o ≡ Some y → xs ≡ Some ys → cons_if o xs ≡ Some (y ∷ ys)
cons_if-some o xs y ys h k = rw (h, k) refl

pub cons_if-head : {A : Type 0} (o : Option A) (xs : Option (List A)) → o ≡ None → cons_if o xs ≡ None
cons_if-head o xs h = rw h refl

pub cons_if-tail : {A : Type 0} (o : Option A) (xs : Option (List A)) → xs ≡ None → cons_if o xs ≡ None
cons_if-tail None xs h = refl
cons_if-tail (Some y) xs h = rw h refl

pub row_less-all : (s : ℕ) (f : ℤ) (us ps xs : List ℤ) → length ps ≡ length us → length xs ≡ length us →
    ((j : ℕ) → j < length us → cell_less s f (get_or us j (pos 0)) (get_or ps j (pos 0)) ≡ Some (get_or xs j (pos 0))) → row_less s f us ps ≡ Some xs
row_less-all s f [] ps [] h k e = refl
row_less-all s f [] ps (x ∷ xs) h k e = absurd (omega arith)
row_less-all s f (u ∷ us) [] xs h k e = absurd (omega arith)
row_less-all s f (u ∷ us) (p ∷ ps) [] h k e = absurd (omega arith)
row_less-all s f (u ∷ us) (p ∷ ps) (x ∷ xs) h k e =
    cons_if-some (cell_less s f u p) (row_less s f us ps) x xs (e 0 (omega arith)) (row_less-all s f us ps xs (omega arith) (omega arith) (λ j l. e (suc j) (omega arith)))

pub row_less-none : (s : ℕ) (f : ℤ) (us ps : List ℤ) (j : ℕ) → length ps ≡ length us → j < length us → cell_less s f (get_or us j (pos 0)) (get_or ps j (pos 0)) ≡ None → row_less s f us ps ≡ None
row_less-none s f [] ps j h l e = absurd (omega arith)
row_less-none s f (u ∷ us) [] j h l e = absurd (omega arith)
row_less-none s f (u ∷ us) (p ∷ ps) zero h l e = cons_if-head (cell_less s f u p) (row_less s f us ps) e
row_less-none s f (u ∷ us) (p ∷ ps) (suc j) h l e = cons_if-tail (cell_less s f u p) (row_less s f us ps) (row_less-none s f us ps j (omega arith) (omega arith) e)

-- ---- exact zeros

pub cell_less-nought : (s : ℕ) (f a p : ℤ) → p ≡ pos 0 → IsInLimit a → cell_less s f a p ≡ Some a
cell_less-nought s f a p e h = let z : f *ℤ p ≡ pos 0 = rw e (omega (arith, ints)) in cell_less-still s f a p z (le-leb (unsigned_abs a) _ h)

pub within-set : (us : List ℤ) (k : ℕ) (x : ℤ) → k < length us → IsInLimit x → ((j : ℕ) → IsInLimit (cell us j)) → (j : ℕ) → IsInLimit (cell (set us k x) j)
within-set us k x l h w j = ⊎_elim {C = IsInLimit (cell (set us k x) j)}
    (λ (e : j ≡ k). rw (e, get_or-set_same) h)
    (λ (n : j ≢ k). rw get_or-set_other (w j))
    (cases_eq j k)

-- no number of a row is greater than the greatest, nor then its product
pub cell-greatest : (ps : List ℤ) (k : ℕ) → unsigned_abs (cell ps k) ≤ greatest_cell ps
cell-greatest [] k = omega (arith, ints)
cell-greatest (p ∷ ps) zero = omega arith
cell-greatest (p ∷ ps) (suc k) = omega (arith, cell-greatest ps k)

pub product-greatest : (f : ℤ) (ps : List ℤ) (k : ℕ) → unsigned_abs (f *ℤ cell ps k) ≤ unsigned_abs f * greatest_cell ps
product-greatest f ps k = rw (unsigned_abs-mul f (cell ps k)) (mul-le-mul_left (unsigned_abs f) (cell-greatest ps k))

get_or-any : {A : Type 0} (xs : List A) (i : ℕ) (d e : A) → i < length xs → get_or xs i d ≡ get_or xs i e
get_or-any [] i d e h = absurd (omega arith)
get_or-any (x ∷ xs) zero d e h = refl
get_or-any (x ∷ xs) (suc i) d e h = get_or-any xs i d e (omega arith)

pub cleared-nought : (s c n : ℕ) (ps us : List ℤ) → length ps ≡ n → cell ps c ≢ pos 0 → cell us c ≡ pos 0 → IsRow n us → cleared s c ps us ≡ Some us
cleared-nought s c n ps us z h e r =
    cleared-still s c ps us (omega (arith, ints, h)) e (omega (arith, r.size, z)) (λ i d l. subst (λ (a : ℤ). is_in_limit a ≡ true) (get_or-any us i (pos 0) d l) (le-leb (unsigned_abs (cell us i)) _ (r.within i)))
