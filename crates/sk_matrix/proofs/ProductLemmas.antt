-- Sums and tables of cells that are the same.
use Rattle.std.proofs.Common.{◌≡◌, ℕ, zero, suc, ◌<◌, ◌+◌, ◌*◌, arith, refl, ap, sym, subst, ◌∙◌, List, [], ◌∷◌, ◌++◌, append_assoc, Option, Some, None, Bool, map, cond, ℤ, pos}
use Rattle.std.specs.Prelude.{slice_get, get_or, option_map, ◌≤◌, length, MatchOption}
use Rattle.std.proofs.Math.Nat.{mul-le-mul_right}
use Rattle.std.specs.List.{All, filter, range_with_len}
use Rattle.std.proofs.lemmas.List.{map-id, map-append}
use Rattle.std.proofs.lemmas.List.FromFn.{filter_of_map_range_with_len_more, get_or-range_with_len, length-range_with_len}
use Rattle.std.proofs.lemmas.List.Elements.{All-filter}
use Rattle.std.proofs.lemmas.Option.{slice_get-map, slice_get-get_or, get_or_from_slice_get}
use Rattle.sk_num.specs.Ends.{Ends, point, span_add, span_mul}
use Rattle.sk_matrix.specs.Cells.{listed, table, number_cell, span_cell}
use Rattle.sk_matrix.specs.Matrix.{of_both, span_sum, product, points}
use Rattle.sk_matrix.specs.TableLaws.{listed-at}
use Rattle.sk_matrix.specs.Sparse.{nonzero_columns, sum_at, added}
use Rattle.sk_matrix.specs.SparseLaws.{sum-fits, mul-nought_left, add-nought, added-all}

-- one column more
pub kept-more : (p : ℕ → Bool) (n : ℕ) (b : Bool) (now new : List ℕ) → now ≡ filter p (range_with_len 0 n) → b ≡ p n → new ≡ now ++ cond b (n ∷ []) [] → new ≡ filter p (range_with_len 0 (n + 1))
kept-more p n b now new h e k =
    k ∙ rw (h, e) (sym (rw (← map-id (range_with_len 0 (n + 1)), ← map-id (range_with_len 0 n)) (filter_of_map_range_with_len_more p (λ i. i) 0 n n (omega arith))))

-- columns of n cells are below n
pub columns-below : (p : ℕ → Bool) (n : ℕ) → All (λ k. k < n) (filter p (range_with_len 0 n))
columns-below p n = All-filter p (λ k. k < n) (range_with_len 0 n) (λ i d l. rw (get_or-range_with_len 0 n i d (omega (arith, l, length-range_with_len 0 n))) (omega (arith, l, length-range_with_len 0 n)))

pub span_sum-same : (n : ℕ) (f g : ℕ → Option Ends) → ((i : ℕ) → i < n → f i ≡ g i) → span_sum n f ≡ span_sum n g
span_sum-same zero f g h = refl
span_sum-same (suc n) f g h = rw (span_sum-same n f g (λ i l. h i (omega (arith, l))), h n (omega arith)) refl

listed-same : {A : Type 0} (n : ℕ) (f g : ℕ → A) → ((i : ℕ) → i < n → f i ≡ g i) → listed n f ≡ listed n g
listed-same zero f g h = refl
listed-same (suc n) f g h = rw (listed-same n f g (λ i l. h i (omega (arith, l))), h n (omega arith)) refl

table-same : {A : Type 0} (m n : ℕ) (f g : ℕ → ℕ → A) → ((i j : ℕ) → i < m → j < n → f i j ≡ g i j) → table m n f ≡ table m n g
table-same zero n f g h = refl
table-same (suc m) n f g h = rw (table-same m n f g (λ i j l k. h i j (omega (arith, l)) k), listed-same n (f m) (g m) (λ j k. h m j (omega arith) k)) refl

pub products-same : (s m n l : ℕ) (a c b d : ℕ → ℕ → Option Ends) → ((i j : ℕ) → i < m → j < n → a i j ≡ c i j) → ((i j : ℕ) → i < n → j < l → b i j ≡ d i j) →
    table m l (product s n a b) ≡ table m l (product s n c d)
products-same s m n l a c b d h k =
    table-same m l (product s n a b) (product s n c d) (λ i j u v.
    span_sum-same n (λ t. of_both (span_mul s) (a i t) (b t j)) (λ t. of_both (span_mul s) (c i t) (d t j)) (λ t w. rw (h i t u w, k t j w v) refl))

inside : (m n i j : ℕ) → i < m → j < n → i * n + j < m * n
inside m n i j h l = let p : i + 1 ≤ m = omega arith in let q = mul-le-mul_right n p in omega (arith, q, l)

-- the cells of a matrix of single numbers
pub points-cell : (m n : ℕ) (cells : List ℤ) → length cells ≡ m * n → (i j : ℕ) → i < m → j < n → span_cell n (map point cells) i j ≡ points (number_cell n cells) i j
points-cell m n cells size i j u v =
    slice_get-map point cells (i * n + j) ∙ ap (option_map point) (slice_get-get_or cells (i * n + j) (pos 0) (omega (arith, size, inside m n i j u v)))

-- a cell that is there
pub cell-there : (m n : ℕ) (cells : List Ends) → length cells ≡ m * n → (i j : ℕ) → i < m → j < n → span_cell n cells i j ≡ Some (get_or cells (i * n + j) (point (pos 0)))
cell-there m n cells size i j u v = slice_get-get_or cells (i * n + j) (point (pos 0)) (omega (arith, size, inside m n i j u v))

pub listed-get : {A : Type 0} (n i : ℕ) (f : ℕ → A) (xs : List A) (r : A) → xs ≡ listed n f → i < n → r ≡ get_or xs i r → r ≡ f i
listed-get n i f xs r e l h = h ∙ get_or_from_slice_get xs i (f i) r (ap (λ ys. slice_get ys i) e ∙ listed-at n i f l)

-- a cell as it is read
pub read-at : (xs : List Ends) (i : ℕ) (r : Ends) → i < length xs → r ≡ get_or xs i r → Some (sum_at xs i) ≡ Some r
read-at xs i r l h = sym (slice_get-get_or xs i (point (pos 0)) l) ∙ slice_get-get_or xs i r l ∙ ap (λ e. Some e) (sym h)

-- one cell more behind others
pub put-more : {A : Type 0} (f : ℕ → Option A) (n : ℕ) (start : List (Option A)) (now new : List A) (x : A) →
    map (λ e. Some e) now ≡ start ++ listed n f → new ≡ now ++ x ∷ [] → f n ≡ Some x → map (λ e. Some e) new ≡ start ++ listed (n + 1) f
put-more f n start now new x h k e =
    let z : suc n ≡ n + 1 = omega arith in
    ap (map (λ e. Some e)) k ∙ map-append (λ e. Some e) now (x ∷ []) ∙ ap (λ xs. xs ++ Some x ∷ []) h ∙ append_assoc start (listed n f) (Some x ∷ [])
    ∙ ap (λ o. start ++ (listed n f ++ o ∷ [])) (sym e) ∙ ap (λ m. start ++ listed m f) z

-- ---- one inner place more

module _ (s : ℕ) (a b : ℕ → ℕ → Option Ends) (row inner : ℕ) (x : Ends) (cell : a row inner ≡ Some x) where
  one-more : (k : ℕ) → product s (inner + 1) a b row k ≡ of_both span_add (product s inner a b row k) (of_both (span_mul s) (Some x) (b inner k))
  one-more k =
      let z : inner + 1 ≡ suc inner = omega arith in
      ap (λ n. product s n a b row k) z
      ∙ ap (λ o. of_both span_add (product s inner a b row k) (of_both (span_mul s) o (b inner k))) cell

  pub product-still : (k : ℕ) (y e : Ends) → x ≡ point (pos 0) → b inner k ≡ Some y → product s inner a b row k ≡ Some e → product s (inner + 1) a b row k ≡ Some e
  product-still k y e z there h =
      let (l, u) = sum-fits inner (λ i. of_both (span_mul s) (a row i) (b i k)) e h in
      one-more k ∙ rw (h, there, z, mul-nought_left s y) (add-nought e l u)

  product-added : (n : ℕ) (us : List Ends) → length us ≡ n → ((k : ℕ) → k < n → product s inner a b row k ≡ Some (sum_at us k)) →
      MatchOption (added s x (b inner) (nonzero_columns n (b inner)) us) ((k : ℕ) × (k < n) × (product s (inner + 1) a b row k ≡ None))
      (λ vs. (length vs ≡ n) × ((k : ℕ) → k < n → product s (inner + 1) a b row k ≡ Some (sum_at vs k)))
  product-added n us size h =
      added-all s x (b inner) (λ k. product s inner a b row k) (λ k. product s (inner + 1) a b row k) one-more
      (λ k e. sum-fits inner (λ i. of_both (span_mul s) (a row i) (b i k)) e) n 0 n us size (omega arith) (λ k l. absurd (omega (arith, l))) (λ k l u. h k u)

  pub added-past : (n : ℕ) (us : List Ends) (ks : List ℕ) → ks ≡ nonzero_columns n (b inner) → length us ≡ n → ((k : ℕ) → k < n → product s inner a b row k ≡ Some (sum_at us k)) →
      added s x (b inner) ks us ≡ None → (k : ℕ) × (k < n) × (product s (inner + 1) a b row k ≡ None)
  added-past n us ks are size h e =
      subst (λ o. MatchOption o ((k : ℕ) × (k < n) × (product s (inner + 1) a b row k ≡ None)) (λ vs. (length vs ≡ n) × ((k : ℕ) → k < n → product s (inner + 1) a b row k ≡ Some (sum_at vs k))))
      (ap (λ ks. added s x (b inner) ks us) (sym are) ∙ e) (product-added n us size h)

  pub added-there : (n : ℕ) (us vs : List Ends) (ks : List ℕ) → ks ≡ nonzero_columns n (b inner) → length us ≡ n → ((k : ℕ) → k < n → product s inner a b row k ≡ Some (sum_at us k)) →
      added s x (b inner) ks us ≡ Some vs → (k : ℕ) → k < n → product s (inner + 1) a b row k ≡ Some (sum_at vs k)
  added-there n us vs ks are size h e =
      (subst (λ o. MatchOption o ((k : ℕ) × (k < n) × (product s (inner + 1) a b row k ≡ None)) (λ vs. (length vs ≡ n) × ((k : ℕ) → k < n → product s (inner + 1) a b row k ≡ Some (sum_at vs k))))
      (ap (λ ks. added s x (b inner) ks us) (sym are) ∙ e) (product-added n us size h)).1
