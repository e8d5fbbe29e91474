use Rattle.std.proofs.lemmas.Result.{err_from_is_err_and}
use Rattle.sk_copy.proofs.Making.{full_refused, past_refused, all_done}
use Rattle.sk_copy.proofs.group_copies.copies.Goals as goal

pub returns-in_err-longer-clause-refused : goal.returns-in_err-longer-clause-refused
returns-in_err-longer-clause-refused g c =
    let p = err_from_is_err_and c.from_residual.result c.from_residual.ensures.1 in
    rw (p.1, p.2) (full_refused c.args.group.now c.args.list.now.items c.as_slice.result.now c.args.source.now c.as_slice.ensures.value c.in_err-longer.field-0.0 c.in_err-longer.ensures.full)

pub returns-in_err-made-clause-refused : goal.returns-in_err-made-clause-refused
returns-in_err-made-clause-refused g c =
    let p = err_from_is_err_and c.from_residual-in_err-made.result c.from_residual-in_err-made.ensures.1 in
    rw (p.1, p.2) (past_refused c.args.group.now c.args.list.now.items c.as_slice.result.now c.args.source.now c.as_slice.ensures.value c.in_ok-longer.longer.items c.deref.result.now c.in_ok-longer.ensures.done c.deref.ensures.value
    c.in_err-made.field-0.0 c.in_err-made.ensures.past)

pub returns-clause-done : goal.returns-clause-done
returns-clause-done g c =
    all_done c.args.group.now c.args.list.now.items c.as_slice.result.now c.args.source.now c.as_slice.ensures.value c.in_ok-longer.longer.items c.deref.result.now c.in_ok-longer.ensures.done c.deref.ensures.value
    c.in_ok-made.made.items c.put_in_order.new.entities.items c.in_ok-made.ensures.made c.in_ok-put_in_order.ensures
