use Rattle.std.proofs.Common.{◌≡◌, ◌++◌, ℕ, subst}
use Rattle.std.specs.Prelude.{OnOk, codes}
use Rattle.sk_gen.specs.Lines.{handle_line, whole_line}
use Rattle.sk_gen.specs.MadeModel.{workplane, constraint_head}
use Rattle.sk_gen.proofs.Chains.{then, same}
use Rattle.sk_gen.proofs.constraints.put_head.Goals as goal

pub returns : goal.returns
unfolding constraint_head
returns c =
    let r = c.put_handle-3.result in
    let new = c.put_handle-3.new.out.items in
    let group = handle_line (codes "Constraint.group.v") 2 in
    let plane = handle_line (codes "Constraint.workplane.v") workplane in
    then r c.args.out.now.items c.put_handle.new.out.items new (handle_line (codes "Constraint.h.v") c.args.number) (whole_line (codes "Constraint.type") c.args.kind ++ (group ++ plane))
    (same c.args.out.now.items c.put_handle.new.out.items (handle_line (codes "Constraint.h.v")) c.into.result c.args.number c.into.ensures c.in_ok-put_handle.ensures)
    (then r c.put_handle.new.out.items c.put_whole.new.out.items new (whole_line (codes "Constraint.type") c.args.kind) (group ++ plane) c.in_ok-put_whole.ensures
    (then r c.put_whole.new.out.items c.put_handle-2.new.out.items new group plane c.in_ok-put_handle-2.ensures
    (subst (λ (n : ℕ). OnOk r (new ≡ c.put_handle-2.new.out.items ++ handle_line (codes "Constraint.workplane.v") n)) c.workplane.ensures c.put_handle-3.ensures)))
