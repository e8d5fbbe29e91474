use Rattle.std.proofs.Common.{◌≤◌, ◌<◌, ◌^◌, ◌*◌, ℕ, length, arith, ap, sym, ◌∙◌, subst, Err, lit<}
use Rattle.std.specs.List.{All}
use Rattle.std.proofs.lemmas.List.{length-map}
use Rattle.std.proofs.lemmas.List.FromFn.{length-range_with_len}
use Rattle.sk_num.specs.Ends.{point}
use Rattle.sk_expr.specs.Visits.{system_of}
use Rattle.sk_elim.specs.Elimination.{Halt}
use Rattle.sk_elim.specs.Slopes.{slope_rows}
use Rattle.sk_krawczyk.specs.IntervalTest.{interval_test}
use Rattle.sk_krawczyk.proofs.RestLemmas.{stored-size}
use Rattle.sk_krawczyk.proofs.BasisLemmas.{range-below}
use Rattle.sk_krawczyk.proofs.FaultLemmas.{no-past}
use Rattle.sk_krawczyk.proofs.PointLemmas.{point-past, point-stored, many-columns, pairs-rows, pairs-columns, eliminated-same}
use Rattle.sk_krawczyk.proofs.TestLemmas.{slopes-stop, slopes-go, elimination-stops}
use Rattle.sk_krawczyk.proofs.point.eliminated.Goals as goal

pub returns-in-Err : goal.returns-in-Err
returns-in-Err g c = c.fault_of.ensures _ (λ p. absurd (no-past _ c.in-Err.ensures p))

pub returns-in-Err-below : goal.returns-in-Err-below
returns-in-Err-below g c = c.fault_of-in-Err-below.ensures _ (λ p. absurd (no-past _ c.in-Err-below.ensures p))

pub returns-in-Err-pairs : goal.returns-in-Err-pairs
returns-in-Err-pairs g c = c.fault_of-in-Err-pairs.ensures _ (λ p. absurd (no-past _ c.in-Err-pairs.ensures p))

pub slopes_over-requires : goal.slopes_over-requires
slopes_over-requires g c =
    let t = c.requires.testable in
    let n = length-map c.args.v.now.unknowns point in
    let rows_in = subst (All (λ r. r < length c.args.v.now.tape.roots)) (sym c.in-Ok.ensures) (range-below (length c.args.v.now.tape.roots) c.count.result (omega (arith, c.count.ensures, t.one_each))) in
    let columns_in = subst (All (λ k. k < length c.args.points.now)) (sym c.in-Ok-below.ensures) (range-below (length c.args.points.now) c.count-2.result (omega (arith, c.count-2.ensures, n, ap length c.requires.points))) in
    let few_rows : length c.in-Ok.rows < 2 ^ 16 = omega (arith, ap length c.in-Ok.ensures, length-range_with_len 0 c.count.result, c.count.ensures, t.few_rows) in
    let few_columns : length c.in-Ok-below.columns < 2 ^ 16 = omega (arith, ap length c.in-Ok-below.ensures, length-range_with_len 0 c.count-2.result, c.count-2.ensures, t.few_unknowns) in
    (lit< tt, (lit< tt, (lit< tt, (c.requires.scale, (t.tape, (rows_in, (columns_in, (few_rows, few_columns))))))))

pub returns-in-Err-slopes_over : goal.returns-in-Err-slopes_over
returns-in-Err-slopes_over g c = c.fault_of-in-Err-slopes_over.ensures _ (λ p.
    let v = c.args.v.now in
    let t = c.requires.testable in
    slopes-stop g.row.S (system_of c.args.params v)
    (point-past c.args.params v t c.args.points.now c.in-Ok.rows c.in-Ok-below.columns c.count.result c.count-2.result c.requires.points c.in-Ok.ensures c.in-Ok-below.ensures c.count.ensures c.count-2.ensures (c.in-Err-slopes_over.ensures p)))

pub eliminate-requires : goal.eliminate-requires
eliminate-requires g c =
    let v = c.args.v.now in
    let t = c.requires.testable in
    let h = c.in-Ok-slopes_over.ensures in
    let slopes = c.in-Ok-slopes_over.slopes in
    let size = stored-size _ _ _ slopes.cells h.2 ∙ ap (λ (k : ℕ). k * length c.in-Ok-below.columns) (sym h.0) ∙ ap (λ (k : ℕ). slopes.rows * k) (sym h.1) in
    let params_in : c.args.params ≤ slopes.cols = omega (arith, many-columns c.args.params v t c.args.points.now c.in-Ok.rows c.in-Ok-below.columns c.count.result c.count-2.result c.requires.points c.in-Ok.ensures c.in-Ok-below.ensures c.count.ensures c.count-2.ensures slopes.rows slopes.cols h.0 h.1, t.forced.params_in) in
    let rows_apart = pairs-rows c.args.params v t c.args.points.now c.in-Ok.rows c.in-Ok-below.columns c.count.result c.count-2.result c.requires.points c.in-Ok.ensures c.in-Ok-below.ensures c.count.ensures c.count-2.ensures slopes.rows slopes.cols h.0 h.1 c.as_slice.result.now (c.as_slice.ensures ∙ c.in-Ok-pairs.ensures) in
    let columns_apart = pairs-columns c.args.params v t c.args.points.now c.in-Ok.rows c.in-Ok-below.columns c.count.result c.count-2.result c.requires.points c.in-Ok.ensures c.in-Ok-below.ensures c.count.ensures c.count-2.ensures slopes.rows slopes.cols h.0 h.1 c.as_slice.result.now (c.as_slice.ensures ∙ c.in-Ok-pairs.ensures) in
    (lit< tt, (lit< tt, (c.requires.scale, (size, (params_in, (rows_apart, columns_apart))))))

pub returns-in-Err-eliminate : goal.returns-in-Err-eliminate
returns-in-Err-eliminate g c =
    let s = g.row.S in
    let v = c.args.v.now in
    let t = c.requires.testable in
    let h = c.in-Ok-slopes_over.ensures in
    let slopes = c.in-Ok-slopes_over.slopes in
    c.fault_of_elimination.ensures _ (interval_test s (system_of c.args.params v)) c.in-Err-eliminate.ensures
    (λ (z : Halt) e. slopes-go s (system_of c.args.params v) (slope_rows c.count.result (length v.unknowns) slopes.cells) (Err z) (point-stored c.args.params v t c.args.points.now c.in-Ok.rows c.in-Ok-below.columns c.count.result c.count-2.result c.requires.points c.in-Ok.ensures c.in-Ok-below.ensures c.count.ensures c.count-2.ensures slopes.cells h.2)
    (eliminated-same c.args.params v t c.args.points.now c.in-Ok.rows c.in-Ok-below.columns c.count.result c.count-2.result c.requires.points c.in-Ok.ensures c.in-Ok-below.ensures c.count.ensures c.count-2.ensures slopes.rows slopes.cols h.0 h.1 c.as_slice.result.now (c.as_slice.ensures ∙ c.in-Ok-pairs.ensures) slopes.cells ∙ e) ∙ elimination-stops s (system_of c.args.params v) z)

pub returns : goal.returns
returns g c =
    let s = g.row.S in
    let v = c.args.v.now in
    let t = c.requires.testable in
    let h = c.in-Ok-slopes_over.ensures in
    let slopes = c.in-Ok-slopes_over.slopes in
    let k = c.in-Ok-eliminate.ensures in (
      slope_rows c.count.result (length v.unknowns) slopes.cells,
      k.0,
      point-stored c.args.params v t c.args.points.now c.in-Ok.rows c.in-Ok-below.columns c.count.result c.count-2.result c.requires.points c.in-Ok.ensures c.in-Ok-below.ensures c.count.ensures c.count-2.ensures slopes.cells h.2,
      eliminated-same c.args.params v t c.args.points.now c.in-Ok.rows c.in-Ok-below.columns c.count.result c.count-2.result c.requires.points c.in-Ok.ensures c.in-Ok-below.ensures c.count.ensures c.count-2.ensures slopes.rows slopes.cols h.0 h.1 c.as_slice.result.now (c.as_slice.ensures ∙ c.in-Ok-pairs.ensures) slopes.cells ∙ k.1,
      k.2,
    )
