use Rattle.std.proofs.Common.{sym, ◌∙◌, List, ℕ, ap, Some}
use Rattle.sk_num.specs.Ends.{Ends}
use Rattle.sk_num.specs.Each.{each_some}
use Rattle.sk_expr.specs.SpanValue.{span_value}
use Rattle.sk_expr.specs.Tapes.{plain_tape, row_tree}
use Rattle.sk_krawczyk.proofs.ReadLemmas.{moved_3, values-read}
use Rattle.sk_krawczyk.proofs.rows.values_over.Goals as goal

pub returns-in-Err : goal.returns-in-Err
returns-in-Err g c = λ e.
    let t = plain_tape c.args.v.now.tape in
    let f = λ (us cs : List Ends) (rs : List ℕ). each_some (λ r. span_value g.row.S us cs (row_tree t r)) rs in
    sym (values-read g.row.S c.args.over.now c.args.v.now.cosines t c.args.rows.now c.requires.rows_in)
    ∙ sym (moved_3 f _ _ _ _ _ _ c.as_slice.ensures c.as_slice-2.ensures c.as_slice-3.ensures) ∙ c.in-Err.ensures.past e

pub returns-in-Ok : goal.returns-in-Ok
returns-in-Ok g c =
    let t = plain_tape c.args.v.now.tape in
    let f = λ (us cs : List Ends) (rs : List ℕ). each_some (λ r. span_value g.row.S us cs (row_tree t r)) rs in
    sym (values-read g.row.S c.args.over.now c.args.v.now.cosines t c.args.rows.now c.requires.rows_in)
    ∙ sym (moved_3 f _ _ _ _ _ _ c.as_slice.ensures c.as_slice-2.ensures c.as_slice-3.ensures) ∙ c.in-Ok.ensures.value ∙ ap (λ (es : List Ends). Some es) (sym c.of.ensures)
