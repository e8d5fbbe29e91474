-- The slopes at the point, as they are stored, beside those of the test.
use Rattle.std.proofs.Common.{◌≡◌, ℕ, ap, sym, ◌∙◌, subst, List, [], length, map, Option, Some, None}
use Rattle.std.specs.List.{Contains, range_with_len}
use Rattle.std.proofs.lemmas.List.{length-map}
use Rattle.std.proofs.lemmas.List.FromFn.{length-range_with_len}
use Rattle.sk_num.specs.Ends.{Ends, point}
use Rattle.sk_num.specs.Each.{each_some}
use Rattle.sk_expr.specs.Tapes.{plain_tape, root_trees, tree_at}
use Rattle.sk_expr.specs.Visits.{system_of, IsTestable}
use Rattle.sk_expr.specs.declared.visited.Visited.{Visited}
use Rattle.sk_elim.specs.Elimination.{eliminate}
use Rattle.sk_elim.specs.PivotLaws.{AreApart}
use Rattle.sk_elim.specs.Slopes.{slope_rows}
use Rattle.sk_matrix.specs.Cells.{table}
use Rattle.sk_krawczyk.specs.IntervalTest.{slopes_at, forced_pairs}
use Rattle.sk_krawczyk.specs.FitLaws.{testable-fits}
use Rattle.sk_krawczyk.specs.RowReadings.{row_slope}
use Rattle.sk_krawczyk.proofs.ReadLemmas.{rows-stored, rows-past}

module _ {s : ℕ} (params : ℕ) (v : Visited s) (testable : IsTestable params v) (points : List Ends) (rows columns : List ℕ) (m n : ℕ)
    (at : points ≡ map point v.unknowns) (all_rows : rows ≡ range_with_len 0 m) (all_columns : columns ≡ range_with_len 0 n) (as_rows : m ≡ length v.rows) (as_columns : n ≡ length v.unknowns) where
  point-table : table (length rows) (length columns) (row_slope s points v.cosines (root_trees (plain_tape v.tape)) rows columns)
      ≡ table m (length v.unknowns) (row_slope s (map point v.unknowns) v.cosines (root_trees (plain_tape v.tape)) (range_with_len 0 m) (range_with_len 0 (length v.unknowns)))
  point-table =
      let trees = root_trees (plain_tape v.tape) in
      let x = map point v.unknowns in
      let all = range_with_len 0 (length v.unknowns) in
      ap (λ (ps : List Ends). table (length rows) (length columns) (row_slope s ps v.cosines trees rows columns)) at
      ∙ ap (λ (rs : List ℕ). table (length rs) (length columns) (row_slope s x v.cosines trees rs columns)) all_rows
      ∙ ap (λ (cs : List ℕ). table (length (range_with_len 0 m)) (length cs) (row_slope s x v.cosines trees (range_with_len 0 m) cs)) (all_columns ∙ ap (range_with_len 0) as_columns)
      ∙ ap (λ (k : ℕ). table k (length all) (row_slope s x v.cosines trees (range_with_len 0 m) all)) (length-range_with_len 0 m)
      ∙ ap (λ (k : ℕ). table m k (row_slope s x v.cosines trees (range_with_len 0 m) all)) (length-range_with_len 0 (length v.unknowns))

  size : m ≡ length (root_trees (plain_tape v.tape))
  size = as_rows ∙ testable.one_each ∙ sym (length-map v.tape.roots (tree_at v.tape.nodes))

  pub point-past : Contains (table (length rows) (length columns) (row_slope s points v.cosines (root_trees (plain_tape v.tape)) rows columns)) None →
      each_some (slopes_at s (system_of params v)) (system_of params v).rows ≡ None
  unfolding slopes_at
  point-past h =
      rows-past s (map point v.unknowns) v.cosines (root_trees (plain_tape v.tape)) m (length v.unknowns) size [] (subst (λ (t : List (Option Ends)). Contains t None) point-table h)

  pub point-stored : (cells : List Ends) → map (λ e. Some e) cells ≡ table (length rows) (length columns) (row_slope s points v.cosines (root_trees (plain_tape v.tape)) rows columns) →
      each_some (slopes_at s (system_of params v)) (system_of params v).rows ≡ Some (slope_rows m (length v.unknowns) cells)
  unfolding slopes_at
  point-stored cells h = rows-stored s (map point v.unknowns) v.cosines (root_trees (plain_tape v.tape)) m (length v.unknowns) size cells (h ∙ point-table)

  -- ---- sizes, as the elimination takes them

  module _ (ar ac : ℕ) (is_rows : ar ≡ length rows) (is_columns : ac ≡ length columns) where
    pub many-rows : ar ≡ m
    many-rows = is_rows ∙ ap length all_rows ∙ length-range_with_len 0 m

    pub many-columns : ac ≡ length v.unknowns
    many-columns = is_columns ∙ ap length all_columns ∙ length-range_with_len 0 n ∙ as_columns

    module _ (forced : List (ℕ × ℕ)) (is_forced : forced ≡ forced_pairs (system_of params v)) where
      pub pairs-rows : AreApart (λ p. p.0) ar forced
      pairs-rows =
          subst (λ (k : ℕ). AreApart (λ p. p.0) k forced) (sym size ∙ sym many-rows)
          (subst (AreApart (λ p. p.0) (length (root_trees (plain_tape v.tape)))) (sym is_forced) (testable-fits params v testable).rows_apart)

      pub pairs-columns : AreApart (λ p. p.1) ac forced
      pairs-columns =
          subst (λ (k : ℕ). AreApart (λ p. p.1) k forced) (sym many-columns)
          (subst (AreApart (λ p. p.1) (length v.unknowns)) (sym is_forced) (testable-fits params v testable).columns_apart)

      pub eliminated-same : (cells : List Ends) → eliminate s (length v.unknowns) params (forced_pairs (system_of params v)) (slope_rows m (length v.unknowns) cells) ≡ eliminate s ac params forced (slope_rows ar ac cells)
      eliminated-same cells =
          ap (λ (ps : List (ℕ × ℕ)). eliminate s (length v.unknowns) params ps (slope_rows m (length v.unknowns) cells)) (sym is_forced)
          ∙ ap (λ (k : ℕ). eliminate s k params forced (slope_rows m k cells)) (sym many-columns)
          ∙ ap (λ (k : ℕ). eliminate s ac params forced (slope_rows k ac cells)) (sym many-rows)
