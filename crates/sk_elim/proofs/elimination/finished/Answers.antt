use Rattle.std.proofs.Common.{◌≡◌, ℕ, true, get_or, sym, ap, ◌∙◌, arith, ◌++◌, length, List, subst, Some, not}
use Rattle.std.specs.Prelude.{option_map}
use Rattle.std.specs.List.{filter, range_with_len}
use Rattle.sk_elim.specs.Elimination.{has_column, has_row, inverse_row}
use Rattle.sk_num.specs.Each.{each_some}
use Rattle.sk_elim.specs.Faults.{progress_of}
use Rattle.sk_elim.specs.Result.{joined}
use Rattle.sk_elim.proofs.FinishLemmas.{length-filter_range, finished-halts, finished-ok}
use Rattle.sk_elim.specs.ReducedLaws.{solved-there, kept-pass}
use Rattle.sk_elim.proofs.elimination.finished.Goals as goal

pub put_inverse-requires : goal.put_inverse-requires
put_inverse-requires g c =
    let w = c.args.w in
    let ps = w.pivots.items in
    let are = c.as_slice-4.ensures.value ∙ c.in-Ok.ensures ∙ ap (λ ps. filter (λ n. has_column n ps) (range_with_len 0 c.args.columns)) c.as_slice.ensures.value in (
      omega arith,
      (
        omega arith,
        (
          c.requires.scale,
          λ k d l.
              solved-there w.rows.items ps (get_or c.as_slice-4.result.now k d) c.requires.not_zero
              (subst (λ (xs : List ℕ). has_column (get_or xs k d) ps ≡ true) (sym are) (kept-pass (λ n. has_column n ps) (range_with_len 0 c.args.columns) k d (omega (arith, l, ap length are)))),
        ),
      ),
    )

pub overflow_cast-rows : goal.overflow_cast-rows
overflow_cast-rows g c = omega (arith, c.len.ensures, c.in-Ok.list.ok.0, ap length c.in-Ok.ensures, length-filter_range (λ n. has_column n c.as_slice.result.now) 0 c.args.columns, c.ranges.columns.fits)

pub overflow_cast-cols : goal.overflow_cast-cols
overflow_cast-cols g c = omega (arith, c.len-2.ensures, c.in-Ok-retained_rows.list.ok.0, ap length c.in-Ok-retained_rows.ensures, length-filter_range (λ n. has_row n c.as_slice-2.result.now) 0 c.args.count, c.ranges.count.fits)

pub returns-in-Err-put_inverse : goal.returns-in-Err-put_inverse
returns-in-Err-put_inverse g c =
    let s = g.row.S in
    let w = progress_of s c.args.w in
    finished-halts s c.args.count c.args.columns c.args.params w c.as_slice-4.result.now c.as_slice-5.result.now
    (c.as_slice-4.ensures.value ∙ c.in-Ok.ensures ∙ ap (λ ps. filter (λ n. has_column n ps) (range_with_len 0 c.args.columns)) c.as_slice.ensures.value)
    (c.as_slice-5.ensures.value ∙ c.in-Ok-retained_rows.ensures ∙ ap (λ ps. filter (λ n. has_row n ps) (range_with_len 0 c.args.count)) c.as_slice-2.ensures.value)
    c.in-Err-put_inverse.e c.in-Err-put_inverse.ensures

pub returns : goal.returns
returns g c =
    let s = g.row.S in
    let w = progress_of s c.args.w in
    let made = c.in-Ok-put_inverse.ensures in
    let (o, is, pivots, held, suspects, solved, retained, cells) = finished-ok s c.args.count c.args.columns c.args.params w c.as_slice-4.result.now c.as_slice-5.result.now
    (c.as_slice-4.ensures.value ∙ c.in-Ok.ensures ∙ ap (λ ps. filter (λ n. has_column n ps) (range_with_len 0 c.args.columns)) c.as_slice.ensures.value)
    (c.as_slice-5.ensures.value ∙ c.in-Ok-retained_rows.ensures ∙ ap (λ ps. filter (λ n. has_row n ps) (range_with_len 0 c.args.count)) c.as_slice-2.ensures.value)
    c.in-Ok-held_columns.list.items c.put_inverse.new.cells.items
    (c.in-Ok-held_columns.ensures ∙ ap (λ ps. filter (λ n. not (has_column n ps)) (range_with_len 0 c.args.params)) c.as_slice-3.ensures.value)
    (subst (λ (start : List _). option_map (λ yss. start ++ joined yss) (each_some (inverse_row s c.args.columns w c.as_slice-5.result.now) c.as_slice-4.result.now) ≡ Some c.put_inverse.new.cells.items) c.new-cells.ensures.items made) in (
      o,
      is,
      record {
        pivots = c.of.ensures ∙ pivots;
        held = c.of-2.ensures ∙ held;
        suspects = c.of-3.ensures ∙ suspects;
        rows = omega (arith, c.len.ensures, c.in-Ok.list.ok.0, ap length c.as_slice-4.ensures.value, ap length solved);
        cols = omega (arith, c.len-2.ensures, c.in-Ok-retained_rows.list.ok.0, ap length c.as_slice-5.ensures.value, ap length retained);
        cells = c.of-4.ensures ∙ cells;
      },
    )
