use Rattle.std.proofs.Common.{◌+◌, ◌++◌}
use Rattle.std.specs.Prelude.{codes}
use Rattle.sk_gen.specs.Lines.{handle_line, close}
use Rattle.sk_gen.specs.MadeModel.{joint_constraint, item, constraint_head}
use Rattle.sk_gen.proofs.Chains.{then, same}
use Rattle.sk_gen.proofs.constraints.put_joint.Goals as goal

pub returns : goal.returns
unfolding joint_constraint
returns c =
    then c.put_close.result (c.args.out.now.items) (c.put_head.new.out.items) (c.put_close.new.out.items) (constraint_head c.args.number 20) (handle_line (codes "Constraint.ptA.v") (item c.args.k 2) ++ (handle_line (codes "Constraint.ptB.v") (item (c.args.k + 1) 1) ++ (close (codes "AddConstraint")))) c.in_ok-put_head.ensures
    (then c.put_close.result (c.put_head.new.out.items) (c.put_handle.new.out.items) (c.put_close.new.out.items) (handle_line (codes "Constraint.ptA.v") (item c.args.k 2)) (handle_line (codes "Constraint.ptB.v") (item (c.args.k + 1) 1) ++ (close (codes "AddConstraint"))) (same (c.put_head.new.out.items) (c.put_handle.new.out.items) (handle_line (codes "Constraint.ptA.v")) c.item.result ((item c.args.k 2)) c.item.ensures c.in_ok-put_handle.ensures)
    (then c.put_close.result (c.put_handle.new.out.items) (c.put_handle-2.new.out.items) (c.put_close.new.out.items) (handle_line (codes "Constraint.ptB.v") (item (c.args.k + 1) 1)) (close (codes "AddConstraint")) (same (c.put_handle.new.out.items) (c.put_handle-2.new.out.items) (handle_line (codes "Constraint.ptB.v")) c.item-2.result ((item (c.args.k + 1) 1)) c.item-2.ensures c.in_ok-put_handle-2.ensures)
    (c.put_close.ensures)))
