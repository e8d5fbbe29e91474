use Rattle.std.proofs.Common.{◌++◌}
use Rattle.std.specs.Prelude.{codes}
use Rattle.sk_model.specs.EntityRecords.{handle_pairs, point_pairs, name_pairs}
use Rattle.sk_model.proofs.PairLines.{then}
use Rattle.sk_model.proofs.entity_records.push_names.Goals as goal

pub returns-clause-lines : goal.returns-clause-lines
unfolding name_pairs
returns-clause-lines g c =
    let e = c.args.entity.now in
    let r = c.push_handle-3.result in
    let new = c.push_handle-3.new.out.items in
    let normal = handle_pairs (codes "Entity.normal.v") e.normal in
    let distance = handle_pairs (codes "Entity.distance.v") e.distance in
    let workplane = handle_pairs (codes "Entity.workplane.v") e.workplane in
    then r (point_pairs 0 e.points) (normal ++ (distance ++ workplane)) c.args.out.now.items c.push_points.new.out.items new (rw c.as_slice.ensures at c.in_ok-push_points.ensures.lines)
    (then r normal (distance ++ workplane) c.push_points.new.out.items c.push_handle.new.out.items new c.in_ok-push_handle.ensures
    (then r distance workplane c.push_handle.new.out.items c.push_handle-2.new.out.items new c.in_ok-push_handle-2.ensures c.push_handle-3.ensures))
