-- What values and slopes, read row by row, say of the test's numbers.
use Rattle.std.proofs.Common.{◌≡◌, ℕ, zero, suc, ◌<◌, ◌≤◌, ◌+◌, ◌*◌, arith, refl, ap, sym, ◌∙◌, List, [], ◌∷◌, ◌++◌, length, map, drop, get_or, ℤ, pos, Option, Some, None, Bool, true, false, append_assoc}
use Rattle.std.specs.Prelude.{◌==◌, ◌||◌, option_map}
use Rattle.std.specs.List.{All, Contains, range_with_len}
use Rattle.std.proofs.lemmas.Bool.{eq-eqb}
use Rattle.std.proofs.lemmas.Option.{slice_get-get_or}
use Rattle.std.proofs.lemmas.List.{map-append, length-map}
use Rattle.std.proofs.lemmas.List.FromFn.{length-range_with_len, get_or-range_with_len}
use Rattle.std.proofs.Math.Nat.{mul-le-mul_right}
use Rattle.sk_num.specs.Ends.{Ends, point}
use Rattle.sk_num.specs.Each.{cons_if, each_some}
use Rattle.sk_expr.specs.Poly.{Poly, number}
use Rattle.sk_expr.specs.SpanValue.{span_value, span_slope}
use Rattle.sk_expr.specs.Columns.{is_among}
use Rattle.sk_expr.specs.SparseRows.{PlainSparse, sparse_slopes, span_beside}
use Rattle.sk_expr.specs.DenseLaws.{slope-beside}
use Rattle.sk_num.specs.EachLaws.{cons-some, each_some-none}
use Rattle.sk_expr.specs.Tapes.{PlainTape, root_trees, row_tree}
use Rattle.sk_expr.specs.VisitLaws.{rows-at}
use Rattle.sk_elim.specs.Slopes.{slope_rows}
use Rattle.sk_matrix.specs.Cells.{listed, table}
use Rattle.sk_matrix.specs.TableLaws.{cells-of_table, table-none, table-has, listed-has, length-table}
use Rattle.sk_krawczyk.specs.CertifiedLaws.{listed-map}
use Rattle.sk_krawczyk.specs.RowReadings.{row_value, row_slope, dense_cells}
use Rattle.sk_krawczyk.proofs.NewtonLemmas.{each_some-fails, table-same}

pub moved_3 : {A B C : Type 0} {D : Type 0} (f : A → B → C → D) (a x : A) (b y : B) (c z : C) → a ≡ x → b ≡ y → c ≡ z → f a b c ≡ f x y z
moved_3 f a x b y c z p q r = ap (λ k. f k b c) p ∙ ap (λ k. f x k c) q ∙ ap (f x y) r

pub moved_4 : {A B C D : Type 0} {E : Type 0} (f : A → B → C → D → E) (a x : A) (b y : B) (c z : C) (d w : D) → a ≡ x → b ≡ y → c ≡ z → d ≡ w → f a b c d ≡ f x y z w
moved_4 f a x b y c z d w p q r t = ap (λ k. f k b c d) p ∙ moved_3 (f x) b y c z d w q r t

-- ---- functions along lists

pub each_some-same : {B : Type 0} (f g : ℕ → Option B) (xs : List ℕ) → ((i : ℕ) → i < length xs → f (get_or xs i 0) ≡ g (get_or xs i 0)) → each_some f xs ≡ each_some g xs
each_some-same f g [] h = refl
each_some-same f g (x ∷ xs) h = ap (λ o. cons_if o (each_some f xs)) (h 0 (omega arith)) ∙ ap (cons_if (g x)) (each_some-same f g xs (λ i l. h (suc i) (omega (arith, l))))

map-same : {B : Type 0} (f g : ℕ → B) (xs : List ℕ) → ((i : ℕ) → i < length xs → f (get_or xs i 0) ≡ g (get_or xs i 0)) → map f xs ≡ map g xs
map-same f g [] h = refl
map-same f g (x ∷ xs) h = ap (λ y. y ∷ map f xs) (h 0 (omega arith)) ∙ ap (λ ys. g x ∷ ys) (map-same f g xs (λ i l. h (suc i) (omega (arith, l))))

some_same : {T : Type 0} (x y : T) → Some x ≡ Some y → x ≡ y
some_same x y e = cc

heads : {T : Type 0} (x y : T) (xs ys : List T) → x ∷ xs ≡ y ∷ ys → (x ≡ y) × (xs ≡ ys)
heads x y xs ys e = (cc, cc)

no-cons : {T : Type 0} (x : T) (xs : List T) → x ∷ xs ≡ [] → ⊥
no-cons x xs e = cc

pub each_some-mapped : {A B : Type 0} (g : A → Option B) (xs : List A) (ys : List B) → map (λ y. Some y) ys ≡ map g xs → each_some g xs ≡ Some ys
each_some-mapped g [] [] h = refl
each_some-mapped g [] (y ∷ ys) h = absurd (no-cons (Some y) (map (λ y. Some y) ys) h)
each_some-mapped g (x ∷ xs) [] h = absurd (no-cons (g x) (map g xs) (sym h))
each_some-mapped g (x ∷ xs) (y ∷ ys) h =
    let (a, b) = heads (Some y) (g x) (map (λ y. Some y) ys) (map g xs) h in
    ap (λ o. cons_if o (each_some g xs)) (sym a) ∙ ap (cons_if (Some y)) (each_some-mapped g xs ys b)

pub each_some-all : {B : Type 0} (f : ℕ → Option B) (g : ℕ → B) (xs : List ℕ) → ((i : ℕ) → i < length xs → f (get_or xs i 0) ≡ Some (g (get_or xs i 0))) → each_some f xs ≡ Some (map g xs)
each_some-all f g [] h = refl
each_some-all f g (x ∷ xs) h = ap (λ o. cons_if o (each_some f xs)) (h 0 (omega arith)) ∙ ap (cons_if (Some (g x))) (each_some-all f g xs (λ i l. h (suc i) (omega (arith, l))))

range-shifted : {B : Type 0} (f : ℕ → Option B) (a n : ℕ) → each_some f (range_with_len (suc a) n) ≡ each_some (λ i. f (suc i)) (range_with_len a n)
range-shifted f a zero = refl
range-shifted f a (suc n) =
    let z : suc a + 1 ≡ suc (a + 1) = omega arith in
    ap (cons_if (f (suc a))) (ap (λ k. each_some f (range_with_len k n)) z ∙ range-shifted f (a + 1) n)

pub each_some-indexed : {A B : Type 0} (h : A → Option B) (xs : List A) (d : A) → each_some (λ i. h (get_or xs i d)) (range_with_len 0 (length xs)) ≡ each_some h xs
each_some-indexed h [] d = refl
each_some-indexed h (x ∷ xs) d = ap (cons_if (h x)) (range-shifted (λ i. h (get_or (x ∷ xs) i d)) 0 (length xs) ∙ each_some-indexed h xs d)

pub range-at : (n i : ℕ) → i < n → get_or (range_with_len 0 n) i 0 ≡ i
range-at n i l = let z : 0 + i ≡ i = omega arith in get_or-range_with_len 0 n i 0 l ∙ z

pub listed-range : {A : Type 0} (n : ℕ) (f : ℕ → A) → listed n f ≡ map f (range_with_len 0 n)
listed-range n f = ap (λ k. listed k f) (sym (length-range_with_len 0 n)) ∙ same (length (range_with_len 0 n)) (omega (arith, length-range_with_len 0 n)) ∙ listed-map (range_with_len 0 n) f 0
  where
    same : (k : ℕ) → k ≤ n → listed k f ≡ listed k (λ i. f (get_or (range_with_len 0 n) i 0))
    same zero l = refl
    same (suc k) l = ap (λ xs. xs ++ (f k ∷ [])) (same k (omega (arith, l))) ∙ ap (λ x. listed k (λ i. f (get_or (range_with_len 0 n) i 0)) ++ (f x ∷ [])) (sym (range-at n k (omega (arith, l))))

-- ---- rows of a tape

module _ (s : ℕ) (over cosines : List Ends) (t : PlainTape) (rows : List ℕ) (inside : All (λ r. r < length t.roots) rows) where
  pub values-read : each_some (λ r. span_value s over cosines (row_tree t r)) rows ≡ each_some (row_value s over cosines (root_trees t)) rows
  values-read = each_some-same _ _ rows (λ i l. ap (span_value s over cosines) (sym (rows-at t (get_or rows i 0) (inside i 0 l))))

-- ---- dense rows

among-at : (ks : List ℕ) (j : ℕ) → j < length ks → is_among ks (get_or ks j 0) ≡ true
among-at [] j l = absurd (omega (arith, l))
among-at (k ∷ ks) zero l = let e = eq-eqb k k refl in rw e refl
among-at (k ∷ ks) (suc j) l = later (k == get_or ks j 0) (is_among ks (get_or ks j 0)) (among-at ks j (omega (arith, l)))
  where
    later : (b c : Bool) → c ≡ true → (b || c) ≡ true
    later true c h = refl
    later false c h = h

table-first : {A : Type 0} (m n : ℕ) (f : ℕ → ℕ → A) → table (suc m) n f ≡ listed n (f 0) ++ table m n (λ i. f (suc i))
table-first zero n f = sym (nothing (listed n (f 0)))
  where
    nothing : {A : Type 0} (xs : List A) → xs ++ [] ≡ xs
    nothing [] = refl
    nothing (x ∷ xs) = ap (λ ys. x ∷ ys) (nothing xs)
table-first (suc m) n f = ap (λ xs. xs ++ listed n (f (suc m))) (table-first m n f) ∙ append_assoc (listed n (f 0)) (table m n (λ i. f (suc i))) (listed n (f (suc m)))

module _ (s : ℕ) (over cosines : List Ends) (ks : List ℕ) where
  row-cells : (t : Poly ℤ) (p : PlainSparse) → sparse_slopes s over cosines ks t ≡ Some p →
      map (λ e. Some e) (map (span_beside p.columns p.spans) ks) ≡ listed (length ks) (λ j. span_slope s over cosines (get_or ks j 0) t)
  row-cells t p h =
      twice ks ∙ map-same (λ c. Some (span_beside p.columns p.spans c)) (λ c. span_slope s over cosines c t) ks (λ j l. sym (slope-beside s over cosines t (get_or ks j 0) ks p h (among-at ks j l)))
      ∙ sym (listed-map ks (λ c. span_slope s over cosines c t) 0)
    where
      twice : (xs : List ℕ) → map (λ e. Some e) (map (span_beside p.columns p.spans) xs) ≡ map (λ c. Some (span_beside p.columns p.spans c)) xs
      twice [] = refl
      twice (x ∷ xs) = ap (λ ys. Some (span_beside p.columns p.spans x) ∷ ys) (twice xs)

  module _ (f : ℕ → Poly ℤ) where
    pub dense-table : (xs : List ℕ) (ps : List PlainSparse) → each_some (λ x. sparse_slopes s over cosines ks (f x)) xs ≡ Some ps →
        map (λ e. Some e) (dense_cells ps ks) ≡ table (length xs) (length ks) (λ i j. span_slope s over cosines (get_or ks j 0) (f (get_or xs i 0)))
    dense-table [] ps h = ap (λ qs. map (λ e. Some e) (dense_cells qs ks)) (some_same ps [] (sym h))
    dense-table (x ∷ xs) ps h =
        let (p, qs, a, b, e) = cons-some (sparse_slopes s over cosines ks (f x)) (each_some (λ x. sparse_slopes s over cosines ks (f x)) xs) ps h in
        ap (λ rs. map (λ e. Some e) (dense_cells rs ks)) e
        ∙ map-append (λ (e : Ends). Some e) (map (span_beside p.columns p.spans) ks) (dense_cells qs ks)
        ∙ ap (λ ys. ys ++ map (λ e. Some e) (dense_cells qs ks)) (row-cells (f x) p a)
        ∙ ap (λ ys. listed (length ks) (λ j. span_slope s over cosines (get_or ks j 0) (f x)) ++ ys) (dense-table xs qs b)
        ∙ sym (table-first (length xs) (length ks) (λ i j. span_slope s over cosines (get_or ks j 0) (f (get_or (x ∷ xs) i 0))))

    pub dense-none : (xs : List ℕ) → each_some (λ x. sparse_slopes s over cosines ks (f x)) xs ≡ None →
        Contains (table (length xs) (length ks) (λ i j. span_slope s over cosines (get_or ks j 0) (f (get_or xs i 0)))) None
    dense-none xs h =
        let (i, l, e) = each_some-fails (λ x. sparse_slopes s over cosines ks (f x)) xs h in
        let (j, o, z) = each_some-fails (λ c. span_slope s over cosines c (f (get_or xs i 0))) ks (unmapped _ (each_some (λ c. span_slope s over cosines c (f (get_or xs i 0))) ks) e) in
        table-has (length xs) (length ks) i (λ i j. span_slope s over cosines (get_or ks j 0) (f (get_or xs i 0))) None l (listed-has (length ks) j (λ j. span_slope s over cosines (get_or ks j 0) (f (get_or xs i 0))) None o z)
      where
        unmapped : {A B : Type 0} (g : A → B) (o : Option A) → option_map g o ≡ None → o ≡ None
        unmapped g None e = refl
        unmapped g (Some x) e = absurd cc

module _ (s : ℕ) (over cosines : List Ends) (t : PlainTape) (rows ks : List ℕ) (inside : All (λ r. r < length t.roots) rows) where
  pub slopes-read : table (length rows) (length ks) (λ i j. span_slope s over cosines (get_or ks j 0) (row_tree t (get_or rows i 0)))
      ≡ table (length rows) (length ks) (row_slope s over cosines (root_trees t) rows ks)
  slopes-read = table-same (length rows) (length ks) _ _ (λ i j l o. ap (span_slope s over cosines (get_or ks j 0)) (sym (rows-at t (get_or rows i 0) (inside i 0 l))))

-- a row's spans have ended
pub beside-none : (ks : List ℕ) (es : List Ends) (i c : ℕ) → length es ≤ i → span_beside (drop i ks) (drop i es) c ≡ point (pos 0)
beside-none [] [] zero c h = refl
beside-none (k ∷ ks) [] zero c h = refl
beside-none ks (e ∷ es) zero c h = absurd (omega (arith, h))
beside-none [] [] (suc i) c h = refl
beside-none [] (e ∷ es) (suc i) c h = refl
beside-none (k ∷ ks) [] (suc i) c h = ended (drop i ks)
  where
    ended : (ks : List ℕ) → span_beside ks [] c ≡ point (pos 0)
    ended [] = refl
    ended (k ∷ ks) = refl
beside-none (k ∷ ks) (e ∷ es) (suc i) c h = beside-none ks es i c (omega (arith, h))

-- ---- stored rows

stored-cell : (m n i j : ℕ) (f : ℕ → ℕ → Option Ends) (cells : List Ends) → map (λ e. Some e) cells ≡ table m n f → i < m → j < n → f i j ≡ Some (get_or cells (i * n + j) (point (pos 0)))
stored-cell m n i j f cells h l o =
    let size : length cells ≡ m * n = sym (length-map cells (λ (e : Ends). Some e)) ∙ ap length h ∙ length-table m n f in
    let p : i + 1 ≤ m = omega (arith, l) in
    let q = mul-le-mul_right n p in
    sym (cells-of_table m n f cells h i j l o) ∙ slice_get-get_or cells (i * n + j) (point (pos 0)) (omega (arith, q, size, o))

module _ (s : ℕ) (over cosines : List Ends) (trees : List (Poly ℤ)) (m n : ℕ) (size : m ≡ length trees) (cells : List Ends) where
  abbrev slopes_of : Poly ℤ → Option (List Ends)
  slopes_of t = each_some (λ c. span_slope s over cosines c t) (range_with_len 0 n)

  pub rows-stored : map (λ e. Some e) cells ≡ table m n (row_slope s over cosines trees (range_with_len 0 m) (range_with_len 0 n)) →
      each_some (λ t. each_some (λ c. span_slope s over cosines c t) (range_with_len 0 n)) trees ≡ Some (slope_rows m n cells)
  rows-stored h =
      sym (each_some-indexed slopes_of trees (number (pos 0))) ∙ ap (λ k. each_some (λ i. slopes_of (get_or trees i (number (pos 0)))) (range_with_len 0 k)) (sym size)
      ∙ each_some-all (λ i. slopes_of (get_or trees i (number (pos 0)))) (λ i. map (λ j. get_or cells (i * n + j) (point (pos 0))) (range_with_len 0 n)) (range_with_len 0 m)
      (λ i l. let k : i < m = omega (arith, l, length-range_with_len 0 m) in at (get_or (range_with_len 0 m) i 0) i k (range-at m i k))
    where
      at : (r i : ℕ) → i < m → r ≡ i → slopes_of (get_or trees r (number (pos 0))) ≡ Some (map (λ j. get_or cells (r * n + j) (point (pos 0))) (range_with_len 0 n))
      at r i k e =
          each_some-all (λ c. span_slope s over cosines c (get_or trees r (number (pos 0)))) (λ j. get_or cells (r * n + j) (point (pos 0))) (range_with_len 0 n)
          (λ j l. let o : j < n = omega (arith, l, length-range_with_len 0 n) in
          let p = stored-cell m n i j (row_slope s over cosines trees (range_with_len 0 m) (range_with_len 0 n)) cells h k o in
          let z : row_slope s over cosines trees (range_with_len 0 m) (range_with_len 0 n) i j ≡ span_slope s over cosines (get_or (range_with_len 0 n) j 0) (get_or trees r (number (pos 0))) =
          ap (λ x. span_slope s over cosines (get_or (range_with_len 0 n) j 0) (get_or trees x (number (pos 0)))) (range-at m i k ∙ sym e) in
          sym z ∙ p ∙ ap (λ x. Some (get_or cells (x * n + j) (point (pos 0)))) (sym e) ∙ ap (λ x. Some (get_or cells (r * n + x) (point (pos 0)))) (sym (range-at n j o)))

  pub rows-past : Contains (table m n (row_slope s over cosines trees (range_with_len 0 m) (range_with_len 0 n))) None →
      each_some (λ t. each_some (λ c. span_slope s over cosines c t) (range_with_len 0 n)) trees ≡ None
  rows-past h =
      let (i, j, l, o, e) = table-none m n (row_slope s over cosines trees (range_with_len 0 m) (range_with_len 0 n)) h in
      let r = get_or (range_with_len 0 m) i 0 in
      let k : i < length trees = omega (arith, l, size) in
      let z : each_some (λ c. span_slope s over cosines c (get_or trees i (number (pos 0)))) (range_with_len 0 n) ≡ None =
      each_some-none (λ c. span_slope s over cosines c (get_or trees i (number (pos 0)))) (range_with_len 0 n) j 0 (omega (arith, o, length-range_with_len 0 n))
      (ap (λ x. span_slope s over cosines (get_or (range_with_len 0 n) j 0) (get_or trees x (number (pos 0)))) (sym (range-at m i l)) ∙ e) in
      each_some-none (λ t. each_some (λ c. span_slope s over cosines c t) (range_with_len 0 n)) trees i (number (pos 0)) k z
