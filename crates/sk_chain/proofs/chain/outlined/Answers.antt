use Rattle.std.proofs.Common.{inr, sym, ap, ◌∙◌, arith}
use Rattle.std.proofs.lemmas.Result.{err_from_is_err_and}
use Rattle.sk_chain.specs.Order.{group_order}
use Rattle.sk_chain.proofs.Outlining.{all_passed, fault_first, fault_made, fault_over, first_none, made_rise, over_differs, over_fits, over_holds}
use Rattle.sk_chain.proofs.chain.outlined.Goals as goal

pub order_of-requires : goal.order_of-requires
order_of-requires g c = (omega arith, rw c.groups.ensures.groups c.groups.ensures.checked.groups_differ)

pub returns-in-Some-clause-value : goal.returns-in-Some-clause-value
returns-in-Some-clause-value g c =
    inr (fault_first c.args.model.now.lists c.args.parts.now c.in_ok-places.places.keys (c.in_ok-places.ensures.places ∙ c.deref.ensures.value ∙ c.in_ok-order.ensures.order ∙ ap group_order c.groups.ensures.groups) c.in-Some.fault (sym c.groups_fault.ensures ∙ c.in-Some.is))

pub groups_made-requires : goal.groups_made-requires
groups_made-requires g c = (omega arith, (omega arith, (omega arith, (c.requires, c.deref-2.ensures.value ∙ c.in_ok-order.ensures.order ∙ ap group_order c.groups.ensures.groups))))

pub returns-in_err-made-clause-value : goal.returns-in_err-made-clause-value
returns-in_err-made-clause-value g c =
    let p = err_from_is_err_and c.from_residual-in_err-made.result c.from_residual-in_err-made.ensures.1 in
    rw (p.1, p.2) (fault_made c.args.model.now.lists c.args.parts.now c.in_ok-places.places.keys (c.in_ok-places.ensures.places ∙ c.deref.ensures.value ∙ c.in_ok-order.ensures.order ∙ ap group_order c.groups.ensures.groups)
    (sym c.groups_fault.ensures ∙ c.in_default.is) _ c.in_err-made.ensures.value)

pub outline_over-requires : goal.outline_over-requires
outline_over-requires g c =
    let m = c.args.model.now.lists in
    let order = c.in_ok-order.ensures.order ∙ ap group_order c.groups.ensures.groups in
    (omega arith, (omega arith, (omega arith, (c.in_ok-places.ensures.places ∙ c.deref.ensures.value ∙ order, (order, made_rise m c.args.parts.now c.groups.ensures.checked c.in_ok-made.made.items c.in_ok-made.ensures.value c.in_ok-made.ensures.own)))))

pub returns-in_err-outlined-clause-value : goal.returns-in_err-outlined-clause-value
returns-in_err-outlined-clause-value g c =
    let p = err_from_is_err_and c.from_residual-in_err-outlined.result c.from_residual-in_err-outlined.ensures.1 in
    rw (p.1, p.2) (fault_over c.args.model.now.lists c.args.parts.now c.in_ok-places.places.keys (c.in_ok-places.ensures.places ∙ c.deref.ensures.value ∙ c.in_ok-order.ensures.order ∙ ap group_order c.groups.ensures.groups)
    (sym c.groups_fault.ensures ∙ c.in_default.is) c.in_ok-made.made.items _ c.in_ok-made.ensures.value c.in_err-outlined.ensures)

pub returns-clause-value : goal.returns-clause-value
returns-clause-value g c =
    all_passed c.args.model.now.lists c.args.parts.now c.in_ok-places.places.keys (c.in_ok-places.ensures.places ∙ c.deref.ensures.value ∙ c.in_ok-order.ensures.order ∙ ap group_order c.groups.ensures.groups)
    (sym c.groups_fault.ensures ∙ c.in_default.is) c.in_ok-made.made.items _ c.in_ok-made.ensures.value c.in_ok-outlined.ensures

pub returns-clause-outline : goal.returns-clause-outline
returns-clause-outline g c =
    over_holds c.args.model.now.lists c.args.parts.now c.groups.ensures.checked c.in_ok-made.made.items c.in_ok-made.ensures.value c.in_ok-made.ensures.own
    (first_none c.args.model.now.lists c.args.parts.now c.in_ok-places.places.keys (c.in_ok-places.ensures.places ∙ c.deref.ensures.value ∙ c.in_ok-order.ensures.order ∙ ap group_order c.groups.ensures.groups) (sym c.groups_fault.ensures ∙ c.in_default.is)) _ c.in_ok-outlined.ensures

pub returns-clause-lists : goal.returns-clause-lists
returns-clause-lists g c = over_fits c.args.model.now.lists c.args.parts.now c.groups.ensures.checked c.in_ok-made.made.items c.in_ok-made.ensures.value c.in_ok-made.ensures.own _ c.in_ok-outlined.ensures

pub returns-clause-differ : goal.returns-clause-differ
returns-clause-differ g c = over_differs c.args.model.now.lists c.args.parts.now c.groups.ensures.checked c.in_ok-made.made.items c.in_ok-made.ensures.value c.in_ok-made.ensures.own _ c.in_ok-outlined.ensures
