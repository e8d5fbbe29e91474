use Rattle.std.proofs.Common.{◌++◌}
use Rattle.std.specs.Prelude.{codes}
use Rattle.sk_gen.specs.Lines.{handle_line, whole_line, close}
use Rattle.sk_gen.specs.MadeModel.{line_request, workplane, request_of}
use Rattle.sk_gen.proofs.Chains.{then, same}
use Rattle.sk_gen.proofs.requests.put_line_request.Goals as goal

pub returns : goal.returns
unfolding line_request
returns c =
    then c.put_close.result (c.args.out.now.items) (c.put_handle.new.out.items) (c.put_close.new.out.items) (handle_line (codes "Request.h.v") (request_of c.args.k)) (whole_line (codes "Request.type") 200 ++ (handle_line (codes "Request.workplane.v") workplane ++ (handle_line (codes "Request.group.v") 2 ++ (close (codes "AddRequest"))))) (same (c.args.out.now.items) (c.put_handle.new.out.items) (handle_line (codes "Request.h.v")) c.request_of.result.0 ((request_of c.args.k)) c.request_of.ensures c.in_ok-put_handle.ensures)
    (then c.put_close.result (c.put_handle.new.out.items) (c.put_whole.new.out.items) (c.put_close.new.out.items) (whole_line (codes "Request.type") 200) (handle_line (codes "Request.workplane.v") workplane ++ (handle_line (codes "Request.group.v") 2 ++ (close (codes "AddRequest")))) c.in_ok-put_whole.ensures
    (then c.put_close.result (c.put_whole.new.out.items) (c.put_handle-2.new.out.items) (c.put_close.new.out.items) (handle_line (codes "Request.workplane.v") workplane) (handle_line (codes "Request.group.v") 2 ++ (close (codes "AddRequest"))) (same (c.put_whole.new.out.items) (c.put_handle-2.new.out.items) (handle_line (codes "Request.workplane.v")) c.workplane.result (workplane) c.workplane.ensures c.in_ok-put_handle-2.ensures)
    (then c.put_close.result (c.put_handle-2.new.out.items) (c.put_handle-3.new.out.items) (c.put_close.new.out.items) (handle_line (codes "Request.group.v") 2) (close (codes "AddRequest")) c.in_ok-put_handle-3.ensures
    (c.put_close.ensures))))
