use Rattle.sk_model.proofs.ParamWritten.{param_written}
use Rattle.sk_model.proofs.writing.push_param.Goals as goal

pub returns-clause-lines : goal.returns-clause-lines
returns-clause-lines g c =
    param_written g.row.S c.args.id c.args.value _ _ _ _ _ _ _ _ c.bytes.ensures c.bytes-2.ensures c.handle_text.ensures.text c.quantity_text-text.ensures.text c.in_ok-push_value.ensures (rw c.from.ensures at c.in_ok-push_value-2.ensures) c.in_ok-extend_from_slice.ensures.items
