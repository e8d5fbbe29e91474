-- What a stored product says of I less it.
use Rattle.std.proofs.Common.{◌+◌, zero, suc, ◌≤◌, ◌-◌, max, true, false, ◌&&◌, refl, arith, Bool, ◌≡◌, ℕ, ◌<◌, ◌*◌, Some, None, ap, sym, ◌∙◌, subst, List, map, length, pos, ◌*ℤ◌, ◌^◌}
use Rattle.std.specs.Prelude.{Option, nat_le, is_some}
use Rattle.sk_num.specs.Sums.{top_to, total_to-same}
use Rattle.sk_krawczyk.specs.IntervalTest.{rows_within, rows_small}
use Rattle.std.specs.List.{Contains}
use Rattle.std.proofs.lemmas.List.{length-map}
use Rattle.std.proofs.lemmas.Option.{slice_get-get_or}
use Rattle.std.proofs.Math.Nat.{mul-le-mul_right}
use Rattle.sk_num.specs.Sums.{unit_at}
use Rattle.sk_num.specs.Ends.{Ends, point, span_sub}
use Rattle.sk_matrix.specs.Matrix.{of_both, one_less, is_whole, mag_or, all_to}
use Rattle.sk_matrix.specs.Cells.{table, span_cell}
use Rattle.sk_matrix.specs.TableLaws.{is_whole-holds, is_whole-fails, cells-of_table, table-none, length-table}

pub stored-size : (m n : ℕ) (p : ℕ → ℕ → Option Ends) (cells : List Ends) → map (λ e. Some e) cells ≡ table m n p → length cells ≡ m * n
stored-size m n p cells t = sym (length-map cells (λ (e : Ends). Some e)) ∙ ap length t ∙ length-table m n p

module _ (s m n : ℕ) (p : ℕ → ℕ → Option Ends) where
  rest-at : (cells : List Ends) → map (λ e. Some e) cells ≡ table m n p → (i k : ℕ) → i < m → k < n → one_less s p i k ≡ one_less s (span_cell n cells) i k
  rest-at cells t i k l o = ap (λ o. of_both span_sub (Some (point (unit_at i k *ℤ pos (2 ^ s)))) o) (sym (cells-of_table m n p cells t i k l o))

  pub rest-same : (rows cols : ℕ) (cells new : List Ends) → rows ≡ m → cols ≡ n → map (λ e. Some e) cells ≡ table m n p →
      ((i k : ℕ) → i < rows → k < cols → one_less s (span_cell cols cells) i k ≡ span_cell cols new i k) → (i k : ℕ) → i < m → k < n → one_less s p i k ≡ span_cell n new i k
  rest-same rows cols cells new a b t h i k l o =
      rest-at cells t i k l o ∙ subst (λ (c : ℕ). one_less s (span_cell c cells) i k ≡ span_cell c new i k) b (h i k (rw a l) (rw b o))

  pub rest-none : (rows cols : ℕ) (cells : List Ends) → rows ≡ m → cols ≡ n → map (λ e. Some e) cells ≡ table m n p →
      ((i : ℕ) × (k : ℕ) × (i < rows) × (k < cols) × (one_less s (span_cell cols cells) i k ≡ None)) → (i : ℕ) × (k : ℕ) × (i < m) × (k < n) × (one_less s p i k ≡ None)
  rest-none rows cols cells a b t (i, k, l, o, z) =
      let l' : i < m = rw (← a) l in
      let o' : k < n = rw (← b) o in
      (i, k, l', o', rest-at cells t i k l' o' ∙ subst (λ (c : ℕ). one_less s (span_cell c cells) i k ≡ None) b z)

  pub rest-past : Contains (table m n p) None → (i : ℕ) × (k : ℕ) × (i < m) × (k < n) × (one_less s p i k ≡ None)
  rest-past c = let (i, k, l, o, z) = table-none m n p c in (i, k, l, o, ap (λ o. of_both span_sub (Some (point (unit_at i k *ℤ pos (2 ^ s)))) o) z)

-- ---- tests of what is stored

pub all_to-same : (n : ℕ) (f g : ℕ → Bool) → ((i : ℕ) → i < n → f i ≡ g i) → all_to n f ≡ all_to n g
all_to-same zero f g h = refl
all_to-same (suc n) f g h = ap (λ b. b && f n) (all_to-same n f g (λ i l. h i (omega arith))) ∙ ap (λ b. all_to n g && b) (h n (omega arith))

pub within-same : (s n : ℕ) (radius : ℕ → ℕ) (p : ℕ → ℕ → Option Ends) (m cols : ℕ) (cells : List Ends) → m ≡ n → cols ≡ n →
    ((i k : ℕ) → i < m → k < n → p i k ≡ span_cell n cells i k) → rows_within s cols radius (span_cell cols cells) ≡ rows_within s n radius p
within-same s n radius p m cols cells a b h =
    ap (λ (c : ℕ). rows_within s c radius (span_cell c cells)) b
    ∙ all_to-same n _ _ (λ i l. ap (λ t. nat_le t (2 ^ (s - 1) * radius i)) (total_to-same n _ _ (λ k o. ap (λ o. mag_or o * radius k) (sym (h i k (rw a l) o)))))

pub small-same : (s m n : ℕ) (p : ℕ → ℕ → Option Ends) (rows cols : ℕ) (cells : List Ends) → rows ≡ m → cols ≡ n →
    ((i k : ℕ) → i < m → k < n → p i k ≡ span_cell n cells i k) → rows_small s rows cols (span_cell cols cells) ≡ rows_small s m n p
small-same s m n p rows cols cells a b h =
    ap (λ (r : ℕ). rows_small s r cols (span_cell cols cells)) a ∙ ap (λ (c : ℕ). rows_small s m c (span_cell c cells)) b
    ∙ all_to-same m _ _ (λ i l. ap (λ t. nat_le t (2 ^ (s - 1))) (total_to-same n _ _ (λ k o. ap mag_or (sym (h i k l o)))))

pub top-small : (m b : ℕ) (f : ℕ → ℕ) → nat_le (top_to m f) b ≡ all_to m (λ i. nat_le (f i) b)
top-small zero b f = grind arith
top-small (suc m) b f = most (top_to m f) (f m) b ∙ ap (λ x. x && nat_le (f m) b) (top-small m b f)
  where
    most : (x y b : ℕ) → nat_le (max x y) b ≡ (nat_le x b && nat_le y b)
    most x y b = grind arith

pub whole-stored : (m n : ℕ) (p : ℕ → ℕ → Option Ends) (cells : List Ends) → length cells ≡ m * n → ((i k : ℕ) → i < m → k < n → p i k ≡ span_cell n cells i k) → is_whole m n p ≡ true
whole-stored m n p cells z h = is_whole-holds m n p (λ i k l o. ap is_some (h i k l o ∙ slice_get-get_or cells (i * n + k) (point (pos 0)) (inside m n i k (length cells) l o z)))
  where
    inside : (m n i k size : ℕ) → i < m → k < n → size ≡ m * n → i * n + k < size
    inside m n i k size h l e = let p : i + 1 ≤ m = omega arith in let q = mul-le-mul_right n p in omega (arith, q, e)

pub first-fails : (a b : Bool) → a ≡ false → (a && b) ≡ false
first-fails a b h = rw h refl

pub second-fails : (a b : Bool) → b ≡ false → (a && b) ≡ false
second-fails true b h = h
second-fails false b h = refl

pub not-whole : (m n : ℕ) (p : ℕ → ℕ → Option Ends) → ((i : ℕ) × (k : ℕ) × (i < m) × (k < n) × (p i k ≡ None)) → is_whole m n p ≡ false
not-whole m n p (i, k, l, o, e) = is_whole-fails m n p i k l o e
