-- Newton's step from listed values.
use Rattle.std.proofs.Common.{◌≡◌, ℕ, zero, suc, ◌<◌, ◌+◌, ◌*◌, arith, refl, ap, sym, ◌∙◌, List, [], ◌∷◌, ◌++◌, length, get_or, ℤ, pos, Option, Some, None, ⊎_elim}
use Rattle.std.specs.Prelude.{slice_get}
use Rattle.std.specs.List.{Contains}
use Rattle.std.proofs.lemmas.Option.{slice_get-get_or}
use Rattle.sk_num.specs.Sums.{last_or_before}
use Rattle.sk_num.specs.Ends.{Ends, point, span_add, span_mul}
use Rattle.sk_expr.specs.Poly.{Poly}
use Rattle.sk_num.specs.Each.{cons_if, each_some}
use Rattle.sk_matrix.specs.Matrix.{of_both, span_sum, product, points}
use Rattle.sk_matrix.specs.Cells.{listed, table, number_cell, span_cell}
use Rattle.sk_matrix.specs.TableLaws.{listed-has, table-has}
use Rattle.sk_num.specs.EachLaws.{each_some-length}
use Rattle.sk_krawczyk.specs.RowReadings.{row_value, newton_of}

each_some-split : {A B : Type 0} (f : A → Option B) (x : A) (xs : List A) (ys : List B) → each_some f (x ∷ xs) ≡ Some ys → (y : B) × (zs : List B) × (ys ≡ y ∷ zs) × (f x ≡ Some y) × (each_some f xs ≡ Some zs)
each_some-split {A} {B} f x xs ys h = pick (f x) (each_some f xs) refl refl h
  where
    pick : (o : Option B) (os : Option (List B)) → f x ≡ o → each_some f xs ≡ os → cons_if o os ≡ Some ys → (y : B) × (zs : List B) × (ys ≡ y ∷ zs) × (f x ≡ Some y) × (each_some f xs ≡ Some zs)
    pick None os a b h = absurd cc
    pick (Some y) None a b h = absurd cc
    pick (Some y) (Some zs) a b h = (y, zs, cc, a, b)

each_some-at : {B : Type 0} (f : ℕ → Option B) (xs : List ℕ) (ys : List B) (i d : ℕ) (e : B) → each_some f xs ≡ Some ys → i < length xs → f (get_or xs i d) ≡ Some (get_or ys i e)
each_some-at f [] ys i d e h l = absurd (omega arith)
each_some-at f (x ∷ xs) ys zero d e h l = let (y, zs, a, b, c) = each_some-split f x xs ys h in b ∙ ap (λ us. Some (get_or us 0 e)) (sym a)
each_some-at f (x ∷ xs) ys (suc i) d e h l = let (y, zs, a, b, c) = each_some-split f x xs ys h in each_some-at f xs zs i d e c (omega arith) ∙ ap (λ us. Some (get_or us (suc i) e)) (sym a)

pub each_some-fails : {B : Type 0} (f : ℕ → Option B) (xs : List ℕ) → each_some f xs ≡ None → (i : ℕ) × (i < length xs) × (f (get_or xs i 0) ≡ None)
each_some-fails f [] h = absurd cc
each_some-fails {B} f (x ∷ xs) h = pick (f x) (each_some f xs) refl refl h (λ e. each_some-fails f xs e)
  where
    pick : (o : Option B) (os : Option (List B)) → f x ≡ o → each_some f xs ≡ os → cons_if o os ≡ None → (each_some f xs ≡ None → (i : ℕ) × (i < length xs) × (f (get_or xs i 0) ≡ None)) → (i : ℕ) × (i < length (x ∷ xs)) × (f (get_or (x ∷ xs) i 0) ≡ None)
    pick None os a b h r = (0, omega arith, a)
    pick (Some y) None a b h r = let (i, l, e) = r b in (suc i, omega arith, e)
    pick (Some y) (Some zs) a b h r = absurd cc

pub span_sum-same : (n : ℕ) (f g : ℕ → Option Ends) → ((i : ℕ) → i < n → f i ≡ g i) → span_sum n f ≡ span_sum n g
span_sum-same zero f g h = refl
span_sum-same (suc n) f g h = ap (λ s. of_both span_add s (f n)) (span_sum-same n f g (λ i l. h i (omega arith))) ∙ ap (λ x. of_both span_add (span_sum n g) x) (h n (omega arith))

both-none : (g : Ends → Ends → Option Ends) (a : Option Ends) → of_both g a None ≡ None
both-none g None = refl
both-none g (Some x) = refl

term-none : (n i : ℕ) (f : ℕ → Option Ends) → i < n → f i ≡ None → span_sum n f ≡ None
term-none zero i f l e = absurd (omega arith)
term-none (suc n) i f l e =
    ⊎_elim {C = span_sum (suc n) f ≡ None}
    (λ (z : i ≡ n). ap (λ x. of_both span_add (span_sum n f) x) (ap f (sym z) ∙ e) ∙ both-none span_add (span_sum n f))
    (λ (o : i < n). ap (λ s. of_both span_add s (f n)) (term-none n i f o e))
    (last_or_before n i l)

listed-same : {A : Type 0} (n : ℕ) (f g : ℕ → A) → ((j : ℕ) → j < n → f j ≡ g j) → listed n f ≡ listed n g
listed-same zero f g h = refl
listed-same (suc n) f g h = ap (λ xs. xs ++ (f n ∷ [])) (listed-same n f g (λ j l. h j (omega arith))) ∙ ap (λ x. listed n g ++ (x ∷ [])) (h n (omega arith))

pub table-same : {A : Type 0} (m n : ℕ) (f g : ℕ → ℕ → A) → ((i j : ℕ) → i < m → j < n → f i j ≡ g i j) → table m n f ≡ table m n g
table-same zero n f g h = refl
table-same (suc m) n f g h =
    ap (λ xs. xs ++ listed n (f m)) (table-same m n f g (λ i j l o. h i j (omega arith) o)) ∙ ap (λ xs. table m n g ++ xs) (listed-same n (f m) (g m) (λ j o. h m j (omega arith) o))

module _ (s : ℕ) (over cosines : List Ends) (rows : List (Poly ℤ)) (retained : List ℕ) (r m : ℕ) (y : List ℤ) (size : m ≡ length retained) where
  pub step-table : (values : List Ends) → each_some (row_value s over cosines rows) retained ≡ Some values →
      table r 1 (product s m (points (number_cell m y)) (span_cell 1 values)) ≡ table r 1 (newton_of s over cosines rows retained m y)
  step-table values h = table-same r 1 _ _ (λ j k l o. span_sum-same m _ _ (λ i p. ap (λ x. of_both (span_mul s) (points (number_cell m y) j i) x) (cell k i o p)))
    where
      cell : (k i : ℕ) → k < 1 → i < m → span_cell 1 values i k ≡ row_value s over cosines rows (get_or retained i 0)
      cell k i o p =
          let z : i * 1 + k ≡ i = omega arith in
          let l : i < length values = omega (arith, p, size, each_some-length (row_value s over cosines rows) retained values h) in
          ap (slice_get values) z ∙ slice_get-get_or values i (point (pos 0)) l ∙ sym (each_some-at (row_value s over cosines rows) retained values i 0 (point (pos 0)) h (omega (arith, p, size)))

  pub step-past : r ≡ length retained → each_some (row_value s over cosines rows) retained ≡ None → Contains (table r 1 (newton_of s over cosines rows retained m y)) None
  step-past n h =
      let (i, o, e) = each_some-fails (row_value s over cosines rows) retained h in
      let l : 0 < r = omega (arith, o, n) in
      let z = term-none m i (λ i. of_both (span_mul s) (points (number_cell m y) 0 i) (row_value s over cosines rows (get_or retained i 0))) (omega (arith, o, size))
      (ap (λ x. of_both (span_mul s) (points (number_cell m y) 0 i) x) e) in
      table-has r 1 0 (newton_of s over cosines rows retained m y) None l (listed-has 1 0 (newton_of s over cosines rows retained m y 0) None (omega arith) z)
