-- Columns, rows and inverse of an elimination fit the system.
use Rattle.std.proofs.Common.{◌≡◌, ℕ, zero, suc, ◌<◌, ◌≤◌, ◌+◌, ◌*◌, arith, ap, sym, ◌∙◌, subst, List, ◌∷◌, length, Some, Ok, Bool, true, false, cond}
use Rattle.std.specs.Prelude.{not}
use Rattle.std.specs.List.{All, filter, range_with_len}
use Rattle.std.proofs.lemmas.List.{length-map}
use Rattle.std.proofs.lemmas.List.FromFn.{length-range_with_len, get_or-range_with_len}
use Rattle.sk_num.specs.Ends.{Ends}
use Rattle.sk_num.specs.Each.{each_some}
use Rattle.sk_num.specs.EachLaws.{each_some-length}
use Rattle.sk_expr.specs.Tapes.{tree_at}
use Rattle.sk_expr.specs.Visits.{system_of, IsTestable}
use Rattle.sk_expr.specs.declared.visited.Visited.{Visited}
use Rattle.sk_elim.specs.Elimination.{Elimination, has_column, has_row, eliminate}
use Rattle.sk_elim.specs.PartLaws.{HasParts, eliminate-parts}
use Rattle.sk_elim.specs.PivotLaws.{AreApart, eliminate-square}
use Rattle.sk_elim.specs.Result.{joined, IsElimination}
use Rattle.sk_elim.specs.declared.elimination.Elim.{Elim}
use Rattle.sk_num.specs.declared.mat.Mat.{Mat}
use Rattle.sk_krawczyk.specs.Box.{Basis, basis_of}
use Rattle.sk_krawczyk.specs.IntervalTest.{slopes_at, forced_pairs}
use Rattle.sk_krawczyk.specs.FitLaws.{testable-fits}
use Rattle.sk_krawczyk.specs.Answers.{plain_basis, IsBasis}
use Rattle.sk_krawczyk.specs.WholeLaws.{filter-below, inverse-size}
use Rattle.sk_krawczyk.specs.declared.basis.Basis.{Basis as StoredBasis}

pub range-below : (m n : ℕ) → n ≤ m → All (λ r. r < m) (range_with_len 0 n)
range-below m n h = λ i d l.
    let o : i < n = omega (arith, l, length-range_with_len 0 n) in
    let e = get_or-range_with_len 0 n i d o in
    omega (arith, e, o, h)

pub kept-few : (p : ℕ → Bool) (a n : ℕ) → length (filter p (range_with_len a n)) ≤ n
kept-few p a zero = omega arith
kept-few p a (suc n) = pick (p a) (kept-few p (a + 1) n)
  where
    pick : (b : Bool) → length (filter p (range_with_len (a + 1) n)) ≤ n → length (cond b (a ∷ filter p (range_with_len (a + 1) n)) (filter p (range_with_len (a + 1) n))) ≤ suc n
    pick true h = omega (arith, h)
    pick false h = omega (arith, h)

-- ---- the basis

module _ {s : ℕ} (params : ℕ) (v : Visited s) (testable : IsTestable params v) (slopes : List (List Ends)) (o : Elimination)
    (there : each_some (slopes_at s (system_of params v)) (system_of params v).rows ≡ Some slopes)
    (eliminated : eliminate s (length v.unknowns) params (forced_pairs (system_of params v)) slopes ≡ Ok o) where
  pub as-many : length slopes ≡ length v.rows
  as-many = each_some-length (slopes_at s (system_of params v)) (system_of params v).rows slopes there ∙ length-map v.tape.roots (tree_at v.tape.nodes) ∙ sym testable.one_each

  pub parts-are : HasParts (length v.unknowns) params (length v.rows) o
  parts-are = subst (λ (k : ℕ). HasParts (length v.unknowns) params k o) as-many (eliminate-parts s (length v.unknowns) params (forced_pairs (system_of params v)) slopes o eliminated).0

  pub elimination-fits : (b : StoredBasis s) (e : Elim s) → plain_basis b ≡ basis_of o → b.inverse ≡ e.inverse → IsElimination s e o → IsBasis v b
  elimination-fits b e same inverse is =
      let (parts, suspects) = eliminate-parts s (length v.unknowns) params (forced_pairs (system_of params v)) slopes o eliminated in
      let fit = testable-fits params v testable in
      let square = eliminate-square s (length v.unknowns) params (forced_pairs (system_of params v)) slopes o fit.params_in fit.columns_apart
      (subst (λ k. AreApart (λ p. p.0) k (forced_pairs (system_of params v))) (length-map v.tape.roots (tree_at v.tape.nodes) ∙ sym testable.one_each ∙ sym as-many) fit.rows_apart) eliminated in
      let solved : b.solved ≡ o.solved = ap (λ (b : Basis). b.solved) same in
      let retained : b.retained ≡ o.retained = ap (λ (b : Basis). b.retained) same in
      let suspected : b.suspects ≡ o.suspects = ap (λ (b : Basis). b.suspects) same in
      let cells : b.inverse.cells ≡ joined o.inverse = ap (λ (b : Basis). b.inverse) same in
      let rows : b.inverse.rows ≡ length o.solved = ap (λ (m : Mat s). m.rows) inverse ∙ is.rows in
      let cols : b.inverse.cols ≡ length o.retained = ap (λ (m : Mat s). m.cols) inverse ∙ is.cols in
      let many : length slopes ≤ length v.tape.roots = omega (arith, as-many, testable.one_each) in
      record {
        columns_in = subst (All (λ c. c < length v.unknowns)) (sym (solved ∙ parts.solved)) (filter-below (λ c. has_column c o.pivots) (length v.unknowns) (length v.unknowns) (omega arith));
        rows_in = subst (All (λ r. r < length v.tape.roots)) (sym (retained ∙ parts.retained)) (filter-below (λ r. has_row r o.pivots) (length v.tape.roots) (length slopes) many);
        suspects_in = subst (All (λ r. r < length v.tape.roots)) (sym (suspected ∙ suspects)) (filter-below (λ r. not (has_row r o.pivots)) (length v.tape.roots) (length slopes) many);
        few = omega (arith, ap length (solved ∙ parts.solved), kept-few (λ c. has_column c o.pivots) 0 (length v.unknowns), testable.few_unknowns);
        square = ap length solved ∙ square ∙ ap length (sym retained);
        inverse_rows = rows ∙ ap length (sym solved);
        inverse_cols = cols ∙ ap length (sym retained);
        inverse = ap length cells ∙ inverse-size s (length v.unknowns) params (forced_pairs (system_of params v)) slopes o eliminated ∙ ap (λ k. k * length o.retained) (sym rows) ∙ ap (λ k. b.inverse.rows * k) (sym cols);
      }
