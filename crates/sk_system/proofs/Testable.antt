-- A visit is what the interval test asks for.
use Rattle.std.proofs.Common.{◌≡◌, ℕ, zero, suc, ◌+◌, ◌*◌, ◌-◌, ◌≤◌, ◌<◌, ◌^◌, ℤ, pos, List, [], ◌∷◌, length, map, take, get_or, Some, refl, sym, ap, ◌∙◌, subst, arith}
use Rattle.std.specs.Prelude.{slice_get}
use Rattle.std.specs.List.{sum_by, range_with_len}
use Rattle.std.proofs.lemmas.List.{length-map}
use Rattle.std.proofs.lemmas.List.Sums.{sum_by-cons}
use Rattle.sk_expr.specs.Poly.{Poly, number, nodes_in, IsInRange}
use Rattle.sk_expr.specs.Rows.{NamedRow, row_of, row_poly}
use Rattle.sk_expr.specs.Seen.{AreForced}
use Rattle.sk_expr.specs.System.{ForcedPivot}
use Rattle.sk_expr.specs.Tapes.{plain_tape, root_trees, row_tree, IsTape}
use Rattle.sk_expr.specs.Visits.{pivot_of, named, grown_of, IsTestable, BeginsWith}
use Rattle.sk_expr.specs.VisitLaws.{rows-at}
use Rattle.sk_expr.specs.declared.row.Row.{Row}
use Rattle.sk_expr.specs.declared.row.Auxiliaries.{Auxiliaries}
use Rattle.sk_expr.specs.declared.visited.Forced.{Forced}
use Rattle.sk_expr.specs.declared.visited.Visited.{Visited}
use Rattle.sk_system.specs.Fits.{RowsFit}
use Rattle.sk_system.specs.Visited.{ColumnsFrom, RowsRise, IsVisit}

-- ---- small rows

nodes-few : {s : ℕ} (u c : ℕ) (rs : List (Row s)) → RowsFit u c (map (row_of {s = s}) rs) → sum_by (λ (r : Row s). nodes_in (row_poly r)) rs ≤ 4000000 * length rs
nodes-few u c [] h = omega arith
nodes-few {s} u c (r ∷ rs) h =
    let l = nodes-few u c rs h.1 in
    let n = h.0.1 in
    let z = sum_by-cons (λ (r : Row s). nodes_in (row_poly r)) r rs in
    omega (arith, l, n, z)

pub small-rows : {s : ℕ} (xs : List ℤ) (a : Auxiliaries s) → IsVisit xs (grown_of a) → sum_by (λ (r : Row s). nodes_in (row_poly r)) a.rows < 2 ^ 31
small-rows {s} xs a h =
    let l = nodes-few (length a.unknowns) (length a.cosines) a.rows h.fits.rows in
    let f = h.few_rows in
    let m = length-map a.rows (row_of {s = s}) in
    omega (arith, l, f, m)

-- ---- rows in range

range-at : (u c : ℕ) (rs : List NamedRow) (i : ℕ) → RowsFit u c rs → i < length rs → IsInRange u c (get_or (map (λ (r : NamedRow). r.tree) rs) i (number (pos 0)))
range-at u c [] i h l = absurd (omega (arith, l))
range-at u c (r ∷ rs) zero h l = h.0.0
range-at u c (r ∷ rs) (suc i) h l = range-at u c rs i h.1 (omega (arith, l))

trees-of : {s : ℕ} (rs : List (Row s)) → map (λ (r : NamedRow). r.tree) (map (row_of {s = s}) rs) ≡ map (row_poly {s = s}) rs
trees-of [] = refl
trees-of {s} (r ∷ rs) = ap (λ (ts : List (Poly ℤ)). row_poly {s = s} r ∷ ts) (trees-of rs)

-- ---- forced pairs

column-at : (n : ℕ) (ps : List ForcedPivot) (i : ℕ) (p : ForcedPivot) → ColumnsFrom n ps → slice_get ps i ≡ Some p → (p.column ≡ n + i) × (i < length ps)
column-at n [] i p h e = absurd cc
column-at n (q ∷ ps) zero p h e = let k : q ≡ p = cc in let a = h.0 in let b = ap (λ (p : ForcedPivot). p.column) k in (omega (arith, a, b), omega arith)
column-at n (q ∷ ps) (suc i) p h e = let r = column-at (n + 1) ps i p h.1 e in let a = r.0 in let b = r.1 in (omega (arith, a), omega (arith, b))

row-at : (a : ℕ) (ps : List ForcedPivot) (n i : ℕ) (p : ForcedPivot) → RowsRise a ps n → slice_get ps i ≡ Some p → (a ≤ p.row) × (p.row < n)
row-at a [] n i p h e = absurd cc
row-at a (q ∷ ps) n zero p h e =
    let k : q ≡ p = cc in
    let b = ap (λ (p : ForcedPivot). p.row) k in
    let l = low (q.row + 1) ps n h.1 in
    let f = h.0 in
    (omega (arith, b, f), omega (arith, b, l))
  where
    low : (a : ℕ) (ps : List ForcedPivot) (n : ℕ) → RowsRise a ps n → a ≤ n
    low a [] n h = h
    low a (q ∷ ps) n h = let l = low (q.row + 1) ps n h.1 in let f = h.0 in omega (arith, l, f)
row-at a (q ∷ ps) n (suc i) p h e =
    let r = row-at (q.row + 1) ps n i p h.1 e in
    let b = r.0 in
    let f = h.0 in
    (omega (arith, b, f), r.1)

row-behind : (a : ℕ) (ps : List ForcedPivot) (n i j : ℕ) (p q : ForcedPivot) → RowsRise a ps n → slice_get ps i ≡ Some p → slice_get ps j ≡ Some q → i < j → p.row < q.row
row-behind a [] n i j p q h e f l = absurd cc
row-behind a (r ∷ ps) n zero zero p q h e f l = absurd (omega (arith, l))
row-behind a (r ∷ ps) n zero (suc j) p q h e f l =
    let k : r ≡ p = cc in
    let b = ap (λ (p : ForcedPivot). p.row) k in
    let m = (row-at (r.row + 1) ps n j q h.1 f).0 in
    omega (arith, b, m)
row-behind a (r ∷ ps) n (suc i) zero p q h e f l = absurd (omega (arith, l))
row-behind a (r ∷ ps) n (suc i) (suc j) p q h e f l = row-behind (r.row + 1) ps n i j p q h.1 e f (omega (arith, l))

there : (ps : List ForcedPivot) (i : ℕ) → i < length ps → (p : ForcedPivot) × (slice_get ps i ≡ Some p)
there [] i l = absurd (omega (arith, l))
there (p ∷ ps) zero l = (p, refl)
there (p ∷ ps) (suc i) l = there ps i (omega (arith, l))

-- ---- the pairs of what is seen

pub record Pairs (params u r : ℕ) (ps : List ForcedPivot) : Type 0 where
  pub many : u ≡ params + length ps
  pub columns : ColumnsFrom params ps
  pub rising : RowsRise 0 ps r

pub forced-of : (params u r : ℕ) (ps : List ForcedPivot) → Pairs params u r ps → AreForced params u r ps
forced-of params u r ps h =
    let many = h.many in
    record {
      params_in = omega (arith, many);
      rows_in = λ i p e. (row-at 0 ps r i p h.rising e).1;
      columns_in = λ i p e. (let k = column-at params ps i p h.columns e in let a = k.0 in let b = k.1 in (omega (arith, a), omega (arith, a, b, many)));
      each_column = λ c l m. (let i = c - params in let t = there ps i (omega (arith, l, m, many)) in let k = column-at params ps i t.0 h.columns t.1 in let a = k.0 in (i, t.0, t.1, omega (arith, a, l)));
      columns_differ = λ i j p q e f g. (let a = (column-at params ps i p h.columns e).0 in let b = (column-at params ps j q h.columns f).0 in omega (arith, a, b, g));
      rows_differ = λ i j p q e f g. apart i j p q e f g;
    }
  where
    apart : (i j : ℕ) (p q : ForcedPivot) → slice_get ps i ≡ Some p → slice_get ps j ≡ Some q → p.row ≡ q.row → i ≡ j
    apart i j p q e f g = grind (arith, row-behind 0 ps r i j p q h.rising e f, row-behind 0 ps r j i q p h.rising f e, g)

-- ---- rows with their names

pub named-rows-of : {s : ℕ} (rs : List (Row s)) → named (map (λ (r : Row s). r.name) rs) (map (row_poly {s = s}) rs) ≡ map (row_of {s = s}) rs
named-rows-of [] = refl
named-rows-of {s} (r ∷ rs) = ap (λ (qs : List NamedRow). row_of {s = s} r ∷ qs) (named-rows-of rs)

-- ---- the visit

columns-range : (n : ℕ) (fs : List Forced) → ColumnsFrom n (map pivot_of fs) → map (λ (f : Forced). f.column) fs ≡ range_with_len n (length fs)
columns-range n [] h = refl
columns-range n (f ∷ fs) h = rw (h.0, columns-range (n + 1) fs h.1) refl

module _ {s : ℕ} (xs : List ℤ) (a : Auxiliaries s) (v : Visited s) (h : IsVisit xs (grown_of a)) (unknowns : v.unknowns ≡ a.unknowns) (cosines : v.cosines ≡ a.cosines) (forced : v.forced ≡ a.forced) where
  pairs : Pairs (length xs) (length a.unknowns) (length (map (row_of {s = s}) a.rows)) (map pivot_of a.forced)
  pairs = record { many = h.fits.many; columns = h.fits.columns; rising = h.fits.rising }

  in-range : root_trees (plain_tape v.tape) ≡ map (row_poly {s = s}) a.rows → length v.tape.roots ≡ length a.rows → (r : ℕ) → r < length v.tape.roots → IsInRange (length v.unknowns) (length v.cosines) (row_tree (plain_tape v.tape) r)
  in-range trees count r l =
      let m = length-map a.rows (row_of {s = s}) in
      let k = range-at (length a.unknowns) (length a.cosines) (map (row_of {s = s}) a.rows) r h.fits.rows (omega (arith, l, count, m)) in
      let e : get_or (map (λ (r : NamedRow). r.tree) (map (row_of {s = s}) a.rows)) r (number (pos 0)) ≡ row_tree (plain_tape v.tape) r =
      ap (λ (ts : List (Poly ℤ)). get_or ts r (number (pos 0))) (trees-of a.rows ∙ sym trees) ∙ rows-at (plain_tape v.tape) r l in
      subst (λ (us : List ℤ). IsInRange (length us) (length v.cosines) (row_tree (plain_tape v.tape) r)) (sym unknowns)
      (subst (λ n. IsInRange (length a.unknowns) n (row_tree (plain_tape v.tape) r)) (ap length (sym cosines)) (subst (λ (t : Poly ℤ). IsInRange (length a.unknowns) (length a.cosines) t) e k))

  pub visit-testable : IsTape (plain_tape v.tape) → root_trees (plain_tape v.tape) ≡ map (row_poly {s = s}) a.rows → length v.tape.roots ≡ length a.rows → length v.rows ≡ length a.rows → IsTestable (length xs) v
  visit-testable tape trees count names =
      let m = length-map a.rows (row_of {s = s}) in
      let fu = h.few_unknowns in
      let fr = h.few_rows in
      let lu = ap length unknowns in
      let f = forced-of (length xs) (length a.unknowns) (length (map (row_of {s = s}) a.rows)) (map pivot_of a.forced) pairs in
      let n : length (map (row_of {s = s}) a.rows) ≡ length v.rows = m ∙ sym names in
      record {
        tape = tape;
        one_each = names ∙ sym count;
        in_range = in-range trees count;
        few_unknowns = omega (arith, fu, lu);
        few_rows = omega (arith, fr, m, names);
        forced = subst (λ (us : List ℤ). AreForced (length xs) (length us) (length v.rows) (map pivot_of v.forced)) (sym unknowns)
            (subst (λ n. AreForced (length xs) (length a.unknowns) n (map pivot_of v.forced)) n
            (subst (λ (fs : List Forced). AreForced (length xs) (length a.unknowns) (length (map (row_of {s = s}) a.rows)) (map pivot_of fs)) (sym forced) f));
      }

  pub visit-begins : BeginsWith xs v
  visit-begins =
      let many = h.fits.many in
      let m = length-map a.forced pivot_of in
      let lu = ap length unknowns in
      let lf = ap length forced in
      record {
        unknowns = subst (λ (us : List ℤ). take (length xs) us ≡ xs) (sym unknowns) h.fits.begins;
        many = omega (arith, many, m, lu, lf);
        columns = subst (λ (fs : List Forced). map (λ (f : Forced). f.column) fs ≡ range_with_len (length xs) (length fs)) (sym forced) (columns-range (length xs) a.forced h.fits.columns);
      }
