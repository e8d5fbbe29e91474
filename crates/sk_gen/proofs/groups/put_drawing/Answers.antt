use Rattle.std.proofs.Common.{◌++◌}
use Rattle.std.specs.Prelude.{codes}
use Rattle.sk_types.specs.Handles.{item_of_request}
use Rattle.sk_gen.specs.Lines.{handle_line, whole_line, quantity_line, close}
use Rattle.sk_gen.specs.MadeModel.{drawing, workplane}
use Rattle.sk_gen.proofs.Chains.{then, same}
use Rattle.sk_gen.proofs.groups.put_drawing.Goals as goal

pub returns : goal.returns
unfolding drawing
returns c =
    then c.put_close.result (c.args.out.now.items) (c.put_handle.new.out.items) (c.put_close.new.out.items) (handle_line (codes "Group.h.v") 2) (whole_line (codes "Group.type") 5001 ++ (whole_line (codes "Group.order") 1 ++ (handle_line (codes "Group.activeWrkpl.v") workplane ++ (whole_line (codes "Group.subtype") 6000 ++ (quantity_line (codes "Group.predef.q.w") 1 ++ (handle_line (codes "Group.predef.origin.v") (item_of_request 1 1) ++ (close (codes "AddGroup")))))))) c.in_ok-put_handle.ensures
    (then c.put_close.result (c.put_handle.new.out.items) (c.put_whole.new.out.items) (c.put_close.new.out.items) (whole_line (codes "Group.type") 5001) (whole_line (codes "Group.order") 1 ++ (handle_line (codes "Group.activeWrkpl.v") workplane ++ (whole_line (codes "Group.subtype") 6000 ++ (quantity_line (codes "Group.predef.q.w") 1 ++ (handle_line (codes "Group.predef.origin.v") (item_of_request 1 1) ++ (close (codes "AddGroup"))))))) c.in_ok-put_whole.ensures
    (then c.put_close.result (c.put_whole.new.out.items) (c.put_whole-2.new.out.items) (c.put_close.new.out.items) (whole_line (codes "Group.order") 1) (handle_line (codes "Group.activeWrkpl.v") workplane ++ (whole_line (codes "Group.subtype") 6000 ++ (quantity_line (codes "Group.predef.q.w") 1 ++ (handle_line (codes "Group.predef.origin.v") (item_of_request 1 1) ++ (close (codes "AddGroup")))))) c.in_ok-put_whole-2.ensures
    (then c.put_close.result (c.put_whole-2.new.out.items) (c.put_handle-2.new.out.items) (c.put_close.new.out.items) (handle_line (codes "Group.activeWrkpl.v") workplane) (whole_line (codes "Group.subtype") 6000 ++ (quantity_line (codes "Group.predef.q.w") 1 ++ (handle_line (codes "Group.predef.origin.v") (item_of_request 1 1) ++ (close (codes "AddGroup"))))) (same (c.put_whole-2.new.out.items) (c.put_handle-2.new.out.items) (handle_line (codes "Group.activeWrkpl.v")) c.workplane.result (workplane) c.workplane.ensures c.in_ok-put_handle-2.ensures)
    (then c.put_close.result (c.put_handle-2.new.out.items) (c.put_whole-3.new.out.items) (c.put_close.new.out.items) (whole_line (codes "Group.subtype") 6000) (quantity_line (codes "Group.predef.q.w") 1 ++ (handle_line (codes "Group.predef.origin.v") (item_of_request 1 1) ++ (close (codes "AddGroup")))) c.in_ok-put_whole-3.ensures
    (then c.put_close.result (c.put_whole-3.new.out.items) (c.put_quantity.new.out.items) (c.put_close.new.out.items) (quantity_line (codes "Group.predef.q.w") 1) (handle_line (codes "Group.predef.origin.v") (item_of_request 1 1) ++ (close (codes "AddGroup"))) c.in_ok-put_quantity.ensures
    (then c.put_close.result (c.put_quantity.new.out.items) (c.put_handle-3.new.out.items) (c.put_close.new.out.items) (handle_line (codes "Group.predef.origin.v") (item_of_request 1 1)) (close (codes "AddGroup")) (same (c.put_quantity.new.out.items) (c.put_handle-3.new.out.items) (handle_line (codes "Group.predef.origin.v")) c.of_request.result.0 ((item_of_request 1 1)) c.of_request.ensures.number c.in_ok-put_handle-3.ensures)
    (c.put_close.ensures)))))))
