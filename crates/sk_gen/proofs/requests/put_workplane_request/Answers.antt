use Rattle.std.proofs.Common.{◌++◌}
use Rattle.std.specs.Prelude.{codes}
use Rattle.sk_gen.specs.Lines.{handle_line, whole_line, close}
use Rattle.sk_gen.specs.MadeModel.{workplane_request}
use Rattle.sk_gen.proofs.Chains.{then}
use Rattle.sk_gen.proofs.requests.put_workplane_request.Goals as goal

pub returns : goal.returns
unfolding workplane_request
returns c =
    then c.put_close.result (c.args.out.now.items) (c.put_handle.new.out.items) (c.put_close.new.out.items) (handle_line (codes "Request.h.v") c.args.r) (whole_line (codes "Request.type") 100 ++ (handle_line (codes "Request.group.v") 1 ++ (close (codes "AddRequest")))) c.in_ok-put_handle.ensures
    (then c.put_close.result (c.put_handle.new.out.items) (c.put_whole.new.out.items) (c.put_close.new.out.items) (whole_line (codes "Request.type") 100) (handle_line (codes "Request.group.v") 1 ++ (close (codes "AddRequest"))) c.in_ok-put_whole.ensures
    (then c.put_close.result (c.put_whole.new.out.items) (c.put_handle-2.new.out.items) (c.put_close.new.out.items) (handle_line (codes "Request.group.v") 1) (close (codes "AddRequest")) c.in_ok-put_handle-2.ensures
    (c.put_close.ensures)))
