use Rattle.std.proofs.Common.{ap, sym, ◌∙◌, get_or, None, [], ◌∷◌, false, ℕ, map}
use Rattle.std.proofs.lemmas.List.{map-append}
use Rattle.sk_expr.specs.Tapes.{plain_tape, row_tree}
use Rattle.sk_num.specs.EachLaws.{each_some-step, each_some-none}
use Rattle.sk_expr.specs.NodeLaws.{knows-place}
use Rattle.sk_expr.specs.ForwardSlopes.{plain_value, duals_in}
use Rattle.sk_expr.specs.SparseRows.{sparse_slopes, plain_sparse}
use Rattle.sk_expr.specs.SparseLaws.{row_slopes-are}
use Rattle.sk_expr.proofs.tape.Tape.sparse_rows.Goals as goal

pub returns-in-Err-clause-past : goal.returns-in-Err-clause-past
returns-in-Err-clause-past g c = λ e.
    let us = c.args.unknowns.now in
    let cs = c.args.cosines.now in
    let t = plain_tape c.args.self.now in
    let r = get_or c.args.rows.now c.loop-row.row-index 0 in
    let listed = λ (k : ℕ). get_or c.deref-4.result.now k false in
    let inside = c.requires.rows_in c.loop-row.row-index 0 c.loop-row-test.true in
    let marked = c.in_ok-marks.ensures.rows c.loop-row.row-index 0 c.loop-row-test.true in
    let value = knows-place t c.as_slice-nodes.result.now c.deref.result.now c.in_ok-marks.marks.items (plain_value g.row.S us cs) None c.index.result.now c.in_ok-values.values.items r c.place-place.result
    c.as_slice-nodes.ensures c.deref.ensures.value c.in_ok-values.ensures c.requires.form inside marked c.place-place.ensures.value c.index.ensures in
    let own = knows-place t c.as_slice-nodes.result.now c.deref-2.result.now c.in_ok-marks.marks.items (duals_in g.row.S us cs listed) [] c.index-in-loop-row.result.now c.in_ok-duals.duals.items r c.place-place.result
    c.as_slice-nodes.ensures c.deref-2.ensures.value c.in_ok-duals.ensures c.requires.form inside marked c.place-place.ensures.value c.index-in-loop-row.ensures in
    let is = row_slopes-are g.row.S us cs (row_tree t r) listed c.args.columns.now c.index.result.now c.as_slice.result.now c.rises-rises.result
    (λ k. ap (λ (l : _). get_or l k false) c.deref-4.ensures.value ∙ c.in_ok-listed.ensures k) value (c.as_slice.ensures ∙ own) c.rises-rises.ensures in
    each_some-none (λ (r : ℕ). sparse_slopes g.row.S us cs c.args.columns.now (row_tree t r)) c.args.rows.now c.loop-row.row-index 0 c.loop-row-test.true (sym is ∙ c.in-Err.ensures.past e)

pub loop-row-preserved : goal.loop-row-preserved
loop-row-preserved g c =
    let us = c.args.unknowns.now in
    let cs = c.args.cosines.now in
    let t = plain_tape c.args.self.now in
    let r = get_or c.args.rows.now c.loop-row.row-index 0 in
    let listed = λ (k : ℕ). get_or c.deref-4.result.now k false in
    let inside = c.requires.rows_in c.loop-row.row-index 0 c.loop-row-test.true in
    let marked = c.in_ok-marks.ensures.rows c.loop-row.row-index 0 c.loop-row-test.true in
    let value = knows-place t c.as_slice-nodes.result.now c.deref.result.now c.in_ok-marks.marks.items (plain_value g.row.S us cs) None c.index.result.now c.in_ok-values.values.items r c.place-place.result
    c.as_slice-nodes.ensures c.deref.ensures.value c.in_ok-values.ensures c.requires.form inside marked c.place-place.ensures.value c.index.ensures in
    let own = knows-place t c.as_slice-nodes.result.now c.deref-2.result.now c.in_ok-marks.marks.items (duals_in g.row.S us cs listed) [] c.index-in-loop-row.result.now c.in_ok-duals.duals.items r c.place-place.result
    c.as_slice-nodes.ensures c.deref-2.ensures.value c.in_ok-duals.ensures c.requires.form inside marked c.place-place.ensures.value c.index-in-loop-row.ensures in
    let is = row_slopes-are g.row.S us cs (row_tree t r) listed c.args.columns.now c.index.result.now c.as_slice.result.now c.rises-rises.result
    (λ k. ap (λ (l : _). get_or l k false) c.deref-4.ensures.value ∙ c.in_ok-listed.ensures k) value (c.as_slice.ensures ∙ own) c.rises-rises.ensures in
    each_some-step (λ (r : ℕ). sparse_slopes g.row.S us cs c.args.columns.now (row_tree t r)) c.args.rows.now c.loop-row.row-index 0 (map plain_sparse c.loop-row.sparse.items) _ (plain_sparse c.in-Ok.found) c.loop-row-test.true c.loop-row.invariant
    (sym is ∙ c.in-Ok.ensures.row)
    (ap (map plain_sparse) c.in_ok-push-in-Ok.ensures.items ∙ map-append plain_sparse c.loop-row.sparse.items (c.in-Ok.found ∷ []))
