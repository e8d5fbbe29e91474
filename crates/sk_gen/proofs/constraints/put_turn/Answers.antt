use Rattle.std.proofs.Common.{◌+◌, ◌++◌}
use Rattle.std.specs.Prelude.{codes}
use Rattle.sk_gen.specs.Lines.{handle_line, close}
use Rattle.sk_gen.specs.MadeModel.{turn_constraint, item, constraint_head, turn_value, turn_kind}
use Rattle.sk_gen.proofs.Chains.{then, same}
use Rattle.sk_gen.proofs.constraints.put_turn.Goals as goal

pub returns : goal.returns
unfolding turn_constraint
returns c =
    then c.put_close.result (c.args.out.now.items) (c.put_head.new.out.items) (c.put_close.new.out.items) (constraint_head c.args.number (turn_kind c.args.k)) (turn_value c.args.k ++ (handle_line (codes "Constraint.entityA.v") (item c.args.k 0) ++ (handle_line (codes "Constraint.entityB.v") (item (c.args.k + 1) 0) ++ (close (codes "AddConstraint"))))) (same (c.args.out.now.items) (c.put_head.new.out.items) (constraint_head c.args.number) c.turn_kind.result ((turn_kind c.args.k)) c.turn_kind.ensures c.in_ok-put_head.ensures)
    (then c.put_close.result (c.put_head.new.out.items) (c.put_turn_value.new.out.items) (c.put_close.new.out.items) (turn_value c.args.k) (handle_line (codes "Constraint.entityA.v") (item c.args.k 0) ++ (handle_line (codes "Constraint.entityB.v") (item (c.args.k + 1) 0) ++ (close (codes "AddConstraint")))) c.in_ok-put_turn_value.ensures
    (then c.put_close.result (c.put_turn_value.new.out.items) (c.put_handle.new.out.items) (c.put_close.new.out.items) (handle_line (codes "Constraint.entityA.v") (item c.args.k 0)) (handle_line (codes "Constraint.entityB.v") (item (c.args.k + 1) 0) ++ (close (codes "AddConstraint"))) (same (c.put_turn_value.new.out.items) (c.put_handle.new.out.items) (handle_line (codes "Constraint.entityA.v")) c.item.result ((item c.args.k 0)) c.item.ensures c.in_ok-put_handle.ensures)
    (then c.put_close.result (c.put_handle.new.out.items) (c.put_handle-2.new.out.items) (c.put_close.new.out.items) (handle_line (codes "Constraint.entityB.v") (item (c.args.k + 1) 0)) (close (codes "AddConstraint")) (same (c.put_handle.new.out.items) (c.put_handle-2.new.out.items) (handle_line (codes "Constraint.entityB.v")) c.item-2.result ((item (c.args.k + 1) 0)) c.item-2.ensures c.in_ok-put_handle-2.ensures)
    (c.put_close.ensures))))
