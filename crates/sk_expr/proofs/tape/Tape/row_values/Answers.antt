use Rattle.std.proofs.Common.{sym, ◌∙◌, get_or, None, ℕ}
use Rattle.sk_num.specs.Ends.{point, span_add, span_sub, span_mul}
use Rattle.sk_expr.specs.SpanValue.{value_by, span_value}
use Rattle.sk_expr.specs.Tapes.{plain_tape, row_tree}
use Rattle.sk_num.specs.EachLaws.{each_some-step, each_some-none}
use Rattle.sk_expr.specs.NodeLaws.{knows-row}
use Rattle.sk_expr.proofs.tape.Tape.row_values.Goals as goal

pub returns-in-None-clause-past : goal.returns-in-None-clause-past
unfolding span_value
returns-in-None-clause-past g c = λ _.
    let V = value_by point span_add span_sub (span_mul g.row.S) c.args.unknowns.now c.args.cosines.now in
    let t = plain_tape c.args.self.now in
    let r = get_or c.args.rows.now c.loop-row.row-index 0 in
    let value = knows-row t c.as_slice.result.now c.deref.result.now c.in_ok-marks.marks.items V None c.in_ok-nodes.nodes.items c.deref-in-loop-row.result.now r
    c.as_slice.ensures c.deref.ensures.value c.deref-in-loop-row.ensures.value c.in_ok-nodes.ensures c.requires.form
    (c.requires.rows_in c.loop-row.row-index 0 c.loop-row-test.true) (c.in_ok-marks.ensures.rows c.loop-row.row-index 0 c.loop-row-test.true) in
    each_some-none (λ (r : ℕ). V (row_tree t r)) c.args.rows.now c.loop-row.row-index 0 c.loop-row-test.true (sym value ∙ sym c.in-None.ensures)

pub loop-row-preserved : goal.loop-row-preserved
unfolding span_value
loop-row-preserved g c =
    let V = value_by point span_add span_sub (span_mul g.row.S) c.args.unknowns.now c.args.cosines.now in
    let t = plain_tape c.args.self.now in
    let r = get_or c.args.rows.now c.loop-row.row-index 0 in
    let value = knows-row t c.as_slice.result.now c.deref.result.now c.in_ok-marks.marks.items V None c.in_ok-nodes.nodes.items c.deref-in-loop-row.result.now r
    c.as_slice.ensures c.deref.ensures.value c.deref-in-loop-row.ensures.value c.in_ok-nodes.ensures c.requires.form
    (c.requires.rows_in c.loop-row.row-index 0 c.loop-row-test.true) (c.in_ok-marks.ensures.rows c.loop-row.row-index 0 c.loop-row-test.true) in
    each_some-step (λ (r : ℕ). V (row_tree t r)) c.args.rows.now c.loop-row.row-index 0 c.loop-row.values.items _ c.in-Some.value c.loop-row-test.true c.loop-row.invariant
    (sym value ∙ sym c.in-Some.ensures) c.in_ok-push-in-Some.ensures.items
