use Rattle.std.proofs.Common.{◌≡◌, ◌<◌, ◌^◌, sym, ◌∙◌, List, ℕ, ap, Some, None, Option, map, length, subst, arith, lit<}
use Rattle.std.specs.List.{Contains}
use Rattle.std.proofs.lemmas.List.{length-map}
use Rattle.sk_num.specs.Ends.{Ends}
use Rattle.sk_num.specs.Each.{each_some}
use Rattle.sk_expr.specs.SparseRows.{plain_sparse, sparse_slopes}
use Rattle.sk_num.specs.EachLaws.{each_some-length}
use Rattle.sk_expr.specs.Tapes.{plain_tape, row_tree}
use Rattle.sk_krawczyk.specs.RowReadings.{dense_cells}
use Rattle.sk_krawczyk.proofs.ReadLemmas.{moved_4, slopes-read, dense-table, dense-none}
use Rattle.sk_krawczyk.proofs.rows.slopes_over.Goals as goal

pub returns-in-Err : goal.returns-in-Err
returns-in-Err g c = λ e.
    let t = plain_tape c.args.v.now.tape in
    let f = λ (us cs : List Ends) (rs ks : List ℕ). each_some (λ r. sparse_slopes g.row.S us cs ks (row_tree t r)) rs in
    let none = sym (moved_4 f _ _ _ _ _ _ _ _ c.as_slice.ensures c.as_slice-2.ensures c.as_slice-3.ensures c.as_slice-4.ensures) ∙ c.in-Err.ensures.past e in
    subst (λ (xs : List (Option Ends)). Contains xs None) (slopes-read g.row.S c.args.over.now c.args.v.now.cosines t c.args.rows.now c.args.columns.now c.requires.rows_in)
    (dense-none g.row.S c.args.over.now c.args.v.now.cosines c.args.columns.now (row_tree t) c.args.rows.now none)

pub dense-requires : goal.dense-requires
dense-requires g c =
    let n = each_some-length _ c.as_slice-3.result.now (map plain_sparse c.in-Ok.sparse.items) c.in-Ok.ensures.value in
    let few : length c.as_slice-5.result.now < 2 ^ 16 = omega (arith, n, length-map c.in-Ok.sparse.items plain_sparse, ap length c.as_slice-3.ensures, ap length c.as_slice-5.ensures.value, c.requires.few_rows) in
    (lit< tt, (lit< tt, (few, c.requires.few_columns)))

pub returns : goal.returns
returns g c =
    let t = plain_tape c.args.v.now.tape in
    let f = λ (us cs : List Ends) (rs ks : List ℕ). each_some (λ r. sparse_slopes g.row.S us cs ks (row_tree t r)) rs in
    let there = sym (moved_4 f _ _ _ _ _ _ _ _ c.as_slice.ensures c.as_slice-2.ensures c.as_slice-3.ensures c.as_slice-4.ensures) ∙ c.in-Ok.ensures.value in
    let n = each_some-length _ c.as_slice-3.result.now (map plain_sparse c.in-Ok.sparse.items) c.in-Ok.ensures.value in
    let h = c.in-Ok-dense.ensures in
    let many : length c.as_slice-5.result.now ≡ length c.args.rows.now = omega (arith, n, length-map c.in-Ok.sparse.items plain_sparse, ap length c.as_slice-3.ensures, ap length c.as_slice-5.ensures.value) in (
      h.0 ∙ many,
      h.1,
      ap (map (λ (e : Ends). Some e)) (h.2 ∙ ap (λ xs. dense_cells (map plain_sparse xs) c.args.columns.now) c.as_slice-5.ensures.value)
          ∙ dense-table g.row.S c.args.over.now c.args.v.now.cosines c.args.columns.now (row_tree t) c.args.rows.now (map plain_sparse c.in-Ok.sparse.items) there
          ∙ slopes-read g.row.S c.args.over.now c.args.v.now.cosines t c.args.rows.now c.args.columns.now c.requires.rows_in,
    )
