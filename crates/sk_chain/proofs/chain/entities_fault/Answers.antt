use Rattle.std.proofs.Common.{List, map, nat_eq, sym, ap, ◌∙◌, arith, subst}
use Rattle.std.specs.List.{IsDistinct}
use Rattle.std.proofs.lemmas.List.Elements.{All-weaker}
use Rattle.sk_types.specs.declared.handle.GroupId.{GroupId}
use Rattle.sk_model.specs.Checked.{IsCheckedConstraint}
use Rattle.sk_chain.specs.Known.{IsAccepted, place_handle}
use Rattle.sk_chain.specs.Order.{group_order}
use Rattle.sk_chain.proofs.Orders.{order_distinct}
use Rattle.sk_chain.proofs.chain.entities_fault.Goals as goal

pub size_fault-requires : goal.size_fault-requires
size_fault-requires g c =
    let m = c.args.model.now.lists in
    let checked = c.groups.ensures.checked in (
      omega arith,
      (
        omega arith,
        (
          omega arith,
          (
            rw c.groups.ensures.groups checked.groups_differ,
            (
              c.requires.places ∙ sym (ap group_order c.groups.ensures.groups),
              (
                subst (λ (ids : List GroupId). IsDistinct nat_eq (map place_handle ids)) (sym c.requires.places) (order_distinct m.groups checked.groups_differ),
                (
                  c.requires.rising,
                  rw c.constraints-2.ensures.constraints (All-weaker IsCheckedConstraint IsAccepted (λ x k. k.accepted) m.constraints checked.constraints),
                ),
              ),
            ),
          ),
        ),
      ),
    )
