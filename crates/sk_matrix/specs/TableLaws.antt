-- The cells of a table, and of a matrix that is stored as one.
use Rattle.std.proofs.Common.{◌-◌, Option, None, map, Bool, true, false, ◌&&◌, ◌≡◌, ℕ, zero, suc, ◌<◌, ◌≤◌, ◌+◌, ◌*◌, Some, arith, refl, ap, sym, ◌∙◌, ⊎_elim, subst, List, [], ◌∷◌, ◌++◌, length}
use Rattle.std.specs.Prelude.{slice_get}
use Rattle.std.specs.List.{Contains}
use Rattle.std.proofs.lemmas.List.Elements.{Contains-append_left, Contains-append_right}
use Rattle.std.proofs.lemmas.Bool.{cases_lt}
use Rattle.std.proofs.lemmas.List.{length-append}
use Rattle.std.proofs.Math.Nat.{mul-le-mul_right}
use Rattle.std.specs.Prelude.{option_map, is_some}
use Rattle.std.proofs.lemmas.Option.{slice_get-map, get_or_from_slice_get}
use Rattle.std.proofs.Math.ListN.{get_or-append}
use Rattle.std.proofs.Math.Seq.{get_or-append_right}
use Rattle.sk_num.specs.Ends.{Ends}
use Rattle.sk_num.specs.Sums.{last_or_before}
use Rattle.sk_matrix.specs.Matrix.{all_to, is_whole}
use Rattle.sk_matrix.specs.Cells.{listed, table, span_cell}

pub listed-has : {A : Type 0} (n i : ℕ) (f : ℕ → A) (x : A) → i < n → f i ≡ x → Contains (listed n f) x
listed-has zero i f x h e = absurd (omega arith)
listed-has (suc n) i f x h e =
    ⊎_elim {C = Contains (listed (suc n) f) x}
    (λ (o : i < n). Contains-append_left (listed n f) (f n ∷ []) x (listed-has n i f x o e))
    (λ (o : n ≤ i). let z : i ≡ n = omega arith in Contains-append_right (listed n f) (f n ∷ []) x (0, omega arith, subst (λ k. f k ≡ x) z e))
    (cases_lt i n)

pub table-has : {A : Type 0} (m n i : ℕ) (f : ℕ → ℕ → A) (x : A) → i < m → Contains (listed n (f i)) x → Contains (table m n f) x
table-has zero n i f x h e = absurd (omega arith)
table-has (suc m) n i f x h e =
    ⊎_elim {C = Contains (table (suc m) n f) x}
    (λ (o : i < m). Contains-append_left (table m n f) (listed n (f m)) x (table-has m n i f x o e))
    (λ (o : m ≤ i). let z : i ≡ m = omega arith in Contains-append_right (table m n f) (listed n (f m)) x (subst (λ k. Contains (listed n (f k)) x) z e))
    (cases_lt i m)

pub length-listed : {A : Type 0} (n : ℕ) (f : ℕ → A) → length (listed n f) ≡ n
length-listed zero f = refl
length-listed (suc n) f = length-append (listed n f) (f n ∷ []) ∙ omega (arith, length-listed n f)

pub length-table : {A : Type 0} (m n : ℕ) (f : ℕ → ℕ → A) → length (table m n f) ≡ m * n
length-table zero n f = omega arith
length-table (suc m) n f = length-append (table m n f) (listed n (f m)) ∙ omega (arith, length-table m n f, length-listed n (f m))

slice_get-left : {A : Type 0} (xs ys : List A) (i : ℕ) → i < length xs → slice_get (xs ++ ys) i ≡ slice_get xs i
slice_get-left [] ys i h = absurd (omega arith)
slice_get-left (x ∷ xs) ys zero h = refl
slice_get-left (x ∷ xs) ys (suc i) h = slice_get-left xs ys i (omega arith)

slice_get-right : {A : Type 0} (xs ys : List A) (i : ℕ) → slice_get (xs ++ ys) (length xs + i) ≡ slice_get ys i
slice_get-right [] ys i = let z : 0 + i ≡ i = omega arith in ap (slice_get ys) z
slice_get-right (x ∷ xs) ys i = let z : suc (length xs) + i ≡ suc (length xs + i) = omega arith in ap (slice_get (x ∷ (xs ++ ys))) z ∙ slice_get-right xs ys i

pub listed-at : {A : Type 0} (n i : ℕ) (f : ℕ → A) → i < n → slice_get (listed n f) i ≡ Some (f i)
listed-at zero i f h = absurd (omega arith)
listed-at (suc n) i f h =
    ⊎_elim {C = slice_get (listed (suc n) f) i ≡ Some (f i)}
    (λ (o : i < n). slice_get-left (listed n f) (f n ∷ []) i (omega (arith, length-listed n f)) ∙ listed-at n i f o)
    (λ (o : n ≤ i). let z : i ≡ length (listed n f) + 0 = omega (arith, length-listed n f) in
    let y : n ≡ i = omega arith in
    ap (slice_get (listed n f ++ (f n ∷ []))) z ∙ slice_get-right (listed n f) (f n ∷ []) 0 ∙ ap (λ k. Some (f k)) y)
    (cases_lt i n)

pub table-at : {A : Type 0} (m n i j : ℕ) (f : ℕ → ℕ → A) → i < m → j < n → slice_get (table m n f) (i * n + j) ≡ Some (f i j)
table-at zero n i j f h l = absurd (omega arith)
table-at (suc m) n i j f h l =
    ⊎_elim {C = slice_get (table (suc m) n f) (i * n + j) ≡ Some (f i j)}
    (λ (o : i < m). slice_get-left (table m n f) (listed n (f m)) (i * n + j) (inside m n i j o l (length-table m n f)) ∙ table-at m n i j f o l)
    (λ (o : m ≤ i). let y : m ≡ i = omega arith in
    let z : i * n + j ≡ length (table m n f) + j = ap (λ k. k * n + j) (sym y) ∙ ap (λ k. k + j) (sym (length-table m n f)) in
    ap (slice_get (table m n f ++ listed n (f m))) z ∙ slice_get-right (table m n f) (listed n (f m)) j ∙ listed-at n j (f m) l ∙ ap (λ k. Some (f k j)) y)
    (cases_lt i m)
  where
    inside : (m n i j : ℕ) → i < m → j < n → {k : ℕ} → k ≡ m * n → i * n + j < k
    inside m n i j h l {k} e = let p : i + 1 ≤ m = omega arith in let q = mul-le-mul_right n p in omega (arith, q)

mapped-some : {A : Type 0} (o : Option A) (x : Option A) → option_map (λ e. Some e) o ≡ Some x → o ≡ x
mapped-some None x h = absurd cc
mapped-some (Some y) x h = cc

-- the cells of a stored table are those of its function
pub cells-of_table : (m n : ℕ) (f : ℕ → ℕ → Option Ends) (cells : List Ends) → map (λ e. Some e) cells ≡ table m n f → (i j : ℕ) → i < m → j < n → span_cell n cells i j ≡ f i j
cells-of_table m n f cells h i j l k =
    mapped-some (slice_get cells (i * n + j)) (f i j) (sym (slice_get-map (λ (e : Ends). Some e) cells (i * n + j)) ∙ ap (λ xs. slice_get xs (i * n + j)) h ∙ table-at m n i j f l k)

-- where a table has a cell that isn't there, its function has one
pub table-none : (m n : ℕ) (f : ℕ → ℕ → Option Ends) → Contains (table m n f) None → (i : ℕ) × (j : ℕ) × (i < m) × (j < n) × (f i j ≡ None)
table-none zero n f (k, l, e) = absurd (omega arith)
table-none (suc m) n f (k, l, e) =
    ⊎_elim {C = (i : ℕ) × (j : ℕ) × (i < suc m) × (j < n) × (f i j ≡ None)}
    (λ (o : k < length (table m n f)).
    let (i, j, a, b, z) = table-none m n f (k, o, sym (get_or-append (table m n f) (listed n (f m)) None k o) ∙ e) in
    (i, j, omega (arith, a), b, z))
    (λ (o : length (table m n f) ≤ k).
    let p = k - length (table m n f) in
    let b : p < n = omega (arith, l, o, length-append (table m n f) (listed n (f m)), length-listed n (f m)) in
    let z = sym (get_or_from_slice_get (listed n (f m)) p (f m p) None (listed-at n p (f m) b)) ∙ sym (get_or-append_right (table m n f) (listed n (f m)) k None o) ∙ e in
    (m, p, omega arith, b, z))
    (cases_lt k (length (table m n f)))

-- every cell of a stored table is there
pub all_to-holds : (n : ℕ) (f : ℕ → Bool) → ((i : ℕ) → i < n → f i ≡ true) → all_to n f ≡ true
all_to-holds zero f h = refl
all_to-holds (suc n) f h = rw (all_to-holds n f (λ i l. h i (omega arith)), h n (omega arith)) refl

and-false : (b : Bool) → (b && false) ≡ false
and-false true = refl
and-false false = refl

pub all_to-fails : (n : ℕ) (f : ℕ → Bool) (i : ℕ) → i < n → f i ≡ false → all_to n f ≡ false
all_to-fails zero f i l h = absurd (omega arith)
all_to-fails (suc n) f i l h =
    ⊎_elim {C = all_to (suc n) f ≡ false}
    (λ (e : i ≡ n). rw (sym (ap f e) ∙ h) (and-false (all_to n f)))
    (λ (o : i < n). rw (all_to-fails n f i o h) refl)
    (last_or_before n i l)

pub is_whole-holds : (m n : ℕ) (f : ℕ → ℕ → Option Ends) → ((i j : ℕ) → i < m → j < n → is_some (f i j) ≡ true) → is_whole m n f ≡ true
is_whole-holds m n f h = all_to-holds m _ (λ i l. all_to-holds n _ (λ j k. h i j l k))

pub is_whole-fails : (m n : ℕ) (f : ℕ → ℕ → Option Ends) (i j : ℕ) → i < m → j < n → f i j ≡ None → is_whole m n f ≡ false
is_whole-fails m n f i j l k e = all_to-fails m _ i l (all_to-fails n (λ j. is_some (f i j)) j k (ap is_some e))
