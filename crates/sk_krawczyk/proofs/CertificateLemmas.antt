-- The certificate that the code fills, and radii of logarithms.
use Rattle.std.proofs.Common.{◌≡◌, ℕ, zero, suc, ◌<◌, ◌≤◌, ◌+◌, ◌-◌, ◌*◌, ◌^◌, arith, lit≤, refl, ap, sym, ◌∙◌, subst, List, [], ◌∷◌, ◌++◌, take, get_or, length, map, ℤ, pos, ◌+ℤ◌, Some, Bool, true, false, ◌&&◌}
use Rattle.std.specs.Prelude.{unsigned_abs, nat_le}
use Rattle.std.specs.List.{All}
use Rattle.std.proofs.lemmas.Int.{ints}
use Rattle.std.proofs.lemmas.Nat.{pow_pos}
use Rattle.std.proofs.lemmas.List.{map-append, take_more}
use Rattle.std.proofs.lemmas.List.Elements.{All-nil, All-cons, All-head, All-tail}
use Rattle.std.proofs.Math.Nat.{pow-le-pow_right}
use Rattle.sk_num.specs.Sums.{total_to-same, top_to-same}
use Rattle.sk_num.specs.Ends.{Ends, point}
use Rattle.sk_num.specs.Scale.{IsScale, IsScale-bounds}
use Rattle.sk_expr.specs.System.{SystemAt}
use Rattle.sk_expr.specs.declared.row.RowName.{RowName}
use Rattle.sk_matrix.specs.Matrix.{mag_or, row_sums, row_sums_plain}
use Rattle.sk_matrix.specs.Cells.{table, number_cell, span_cell}
use Rattle.sk_matrix.specs.MatrixLaws.{and-second}
use Rattle.sk_matrix.specs.TableLaws.{cells-of_table}
use Rattle.sk_krawczyk.specs.Box.{Basis, square_system, slope_over, radius_of}
use Rattle.sk_krawczyk.specs.IntervalTest.{are_near, radius_at, certificate, suspects_of, whole_up, unless_none, bound, spread, radius_ratio}
use Rattle.sk_krawczyk.specs.Answers.{radius_of_log, IsRadiusLog, IsCertificate, named_suspect, with_name}
use Rattle.sk_krawczyk.specs.declared.certificate.Certificate.{Certificate as StoredCertificate}

-- ---- radii of logarithms

all-mapped : (P Q : ℤ → Type 0) (f : ℤ → ℤ) → ((x : ℤ) → P x → Q (f x)) → (xs : List ℤ) → All P xs → All Q (map f xs)
all-mapped P Q f h [] a = All-nil Q
all-mapped P Q f h (x ∷ xs) a = All-cons Q (f x) (map f xs) (h x (All-head P x xs a)) (all-mapped P Q f h xs (All-tail P x xs a))

abbrev radius : ℕ → ℤ → ℤ
radius s l = pos (radius_of_log s l)

pub sizes-are : (s : ℕ) (logs : List ℤ) → map unsigned_abs (map (λ l. pos (radius_of_log s l)) logs) ≡ map (radius_of_log s) logs
sizes-are s [] = refl
sizes-are s (l ∷ logs) = ap (λ xs. radius_of_log s l ∷ xs) (sizes-are s logs)

pub radii-small : (s : ℕ) → IsScale s → (logs : List ℤ) → All (IsRadiusLog s) logs → All (λ r. unsigned_abs r ≤ 2 ^ (s - 10)) (map (λ l. pos (radius_of_log s l)) logs)
radii-small s scale logs a =
    all-mapped (IsRadiusLog s) (λ r. unsigned_abs r ≤ 2 ^ (s - 10)) (radius s)
    (λ l h. let e : unsigned_abs (l +ℤ pos s) ≤ s - 10 = omega (arith, ints, h.least, h.most, IsScale-bounds scale) in pow-le-pow_right (lit≤ tt) e) logs a

pub radii-positive : (s : ℕ) (logs : List ℤ) → All (IsRadiusLog s) logs → All (λ r. 0 < unsigned_abs r) (map (λ l. pos (radius_of_log s l)) logs)
radii-positive s logs a = all-mapped (IsRadiusLog s) (λ r. 0 < unsigned_abs r) (radius s) (λ l h. pow_pos (unsigned_abs (l +ℤ pos s))) logs a

-- ---- logarithms one by one

pub near-at : (s : ℕ) (es : List Ends) (i : ℕ) (x : Ends) → i < length es → x ≡ get_or es i x → are_near s (map radius_of es) ≡ true → nat_le (radius_of x) (2 ^ (s - 10)) ≡ true
near-at s [] i x l e h = absurd (omega (arith, l))
near-at s (y ∷ es) zero x l e h = ap (λ z. nat_le (radius_of z) (2 ^ (s - 10))) e ∙ first (nat_le (radius_of y) (2 ^ (s - 10))) (are_near s (map radius_of es)) h
  where
    first : (a b : Bool) → (a && b) ≡ true → a ≡ true
    first true b h = refl
    first false b h = h
near-at s (y ∷ es) (suc i) x l e h = near-at s es i x (omega (arith, l)) e (and-second (nat_le (radius_of y) (2 ^ (s - 10))) (are_near s (map radius_of es)) h)

pub all-more : (P : ℤ → Type 0) (now new : List ℤ) (x : ℤ) → All P now → P x → new ≡ now ++ x ∷ [] → All P new
all-more P now new x a p e = subst (All P) (sym e) (joined now a)
  where
    joined : (xs : List ℤ) → All P xs → All P (xs ++ x ∷ [])
    joined [] a = All-cons P x [] p a
    joined (y ∷ ys) a = All-cons P y (ys ++ x ∷ []) (All-head P y ys a) (joined ys (All-tail P y ys a))

pub logs-more : (s : ℕ) (step : List Ends) (i : ℕ) (now new : List ℤ) (l : ℤ) → i < length step → map (radius_of_log s) now ≡ map radius_of (take i step) →
    radius_of_log s l ≡ radius_of (get_or step i (point (pos 0))) → new ≡ now ++ l ∷ [] → map (radius_of_log s) new ≡ map radius_of (take (i + 1) step)
logs-more s step i now new l inside h e k =
    ap (map (radius_of_log s)) k ∙ map-append (radius_of_log s) now (l ∷ []) ∙ ap (λ xs. xs ++ radius_of_log s l ∷ []) h ∙ ap (λ r. map radius_of (take i step) ++ r ∷ []) e
    ∙ sym (map-append radius_of (take i step) (get_or step i (point (pos 0)) ∷ [])) ∙ ap (map radius_of) (sym (take_more step i (point (pos 0)) inside))

-- ---- the certificate

module _ (s : ℕ) (v : SystemAt) (b : Basis) (radii : List ℤ) (cells : List Ends)
    (stored : map (λ e. Some e) cells ≡ table (length b.solved) (length b.solved) (slope_over s (square_system v b) (radius_at (map unsigned_abs radii)))) where
  sums-same : (rows cols : ℕ) → rows ≡ length b.solved → cols ≡ length b.solved →
      row_sums rows cols (span_cell cols cells) ≡ row_sums (length b.solved) (length b.solved) (slope_over s (square_system v b) (radius_at (map unsigned_abs radii)))
  sums-same rows cols p q =
      ap (λ k. row_sums k cols (span_cell cols cells)) p ∙ ap (λ k. row_sums (length b.solved) k (span_cell k cells)) q
      ∙ top_to-same (length b.solved) _ _ (λ i l. total_to-same (length b.solved) _ _ (λ j o.
      ap mag_or (cells-of_table (length b.solved) (length b.solved) (slope_over s (square_system v b) (radius_at (map unsigned_abs radii))) cells stored i j l o)))

  plain-same : (rows cols : ℕ) (y : List ℤ) → rows ≡ length b.solved → cols ≡ length b.solved → y ≡ b.inverse →
      row_sums_plain rows cols (number_cell cols y) ≡ row_sums_plain (length b.solved) (length b.solved) (number_cell (length b.solved) b.inverse)
  plain-same rows cols y p q e =
      ap (λ k. row_sums_plain k cols (number_cell cols y)) p ∙ ap (λ k. row_sums_plain (length b.solved) k (number_cell k y)) q
      ∙ ap (λ z. row_sums_plain (length b.solved) (length b.solved) (number_cell (length b.solved) z)) e

  pub bound-is : (rows cols : ℕ) → rows ≡ length b.solved → cols ≡ length b.solved →
      unless_none rows (4 * whole_up s (row_sums rows cols (span_cell cols cells))) ≡ bound s (square_system v b) (radius_at (map unsigned_abs radii))
  bound-is rows cols p q = ap (λ n. unless_none rows (4 * whole_up s n)) (sums-same rows cols p q)
      ∙ ap (λ k. unless_none k (4 * whole_up s (row_sums (length b.solved) (length b.solved) (slope_over s (square_system v b) (radius_at (map unsigned_abs radii)))))) p

  pub spread-is : (rows cols yr yc : ℕ) (y : List ℤ) → rows ≡ length b.solved → cols ≡ length b.solved → yr ≡ length b.solved → yc ≡ length b.solved → y ≡ b.inverse →
      unless_none rows (16 * (whole_up s (row_sums rows cols (span_cell cols cells)) * whole_up s (row_sums_plain yr yc (number_cell yc y)) * radius_ratio (map unsigned_abs radii)))
      ≡ spread s (square_system v b) (radius_at (map unsigned_abs radii)) (radius_ratio (map unsigned_abs radii))
  spread-is rows cols yr yc y p q u w e =
      ap (λ n. unless_none rows (16 * (whole_up s n * whole_up s (row_sums_plain yr yc (number_cell yc y)) * radius_ratio (map unsigned_abs radii)))) (sums-same rows cols p q)
      ∙ ap (λ n. unless_none rows (16 * (whole_up s (row_sums (length b.solved) (length b.solved) (slope_over s (square_system v b) (radius_at (map unsigned_abs radii)))) * whole_up s n * radius_ratio (map unsigned_abs radii))))
      (plain-same yr yc y u w e)
      ∙ ap (λ k. unless_none k (16 * (whole_up s (row_sums (length b.solved) (length b.solved) (slope_over s (square_system v b) (radius_at (map unsigned_abs radii))))
      * whole_up s (row_sums_plain (length b.solved) (length b.solved) (number_cell (length b.solved) b.inverse)) * radius_ratio (map unsigned_abs radii)))) p

-- the code's certificate is the definition's
pub certificate-is : {s : ℕ} (names : List RowName) (v : SystemAt) (b : Basis) (logs : List ℤ) (radii : List ℕ) (spans : List Ends) (k : StoredCertificate s) →
    map (radius_of_log s) logs ≡ radii → All (IsRadiusLog s) logs → k.centre ≡ v.unknowns → k.radius_logs ≡ logs → k.held ≡ b.held → k.solved ≡ b.solved → k.retained ≡ b.retained →
    map named_suspect k.suspects ≡ map (with_name names) (suspects_of b.suspects spans) → k.inverse.rows ≡ length b.solved → k.inverse.cols ≡ length b.retained → k.inverse.cells ≡ b.inverse →
    k.bound ≡ bound s (square_system v b) (radius_at radii) → k.spread ≡ spread s (square_system v b) (radius_at radii) (radius_ratio radii) →
    IsCertificate names k (certificate s v b radii (suspects_of b.suspects spans))
certificate-is {s} names v b logs radii spans k sizes forms centre kl held solved retained suspects rows cols inverse bound_is spread_is = record {
  centre = centre;
  radii = ap (map (radius_of_log s)) kl ∙ sizes;
  logs = subst (All (IsRadiusLog s)) (sym kl) forms;
  bound = bound_is;
  spread = spread_is;
  held = held;
  solved = solved;
  retained = retained;
  suspects = suspects;
  inverse_rows = rows;
  inverse_cols = cols;
  inverse = inverse;
}
