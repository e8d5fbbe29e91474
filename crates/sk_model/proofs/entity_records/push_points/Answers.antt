use Rattle.sk_model.proofs.PairLines.{no_pairs}
use Rattle.sk_model.proofs.EntityLines.{point_step}
use Rattle.sk_model.proofs.entity_records.push_points.Goals as goal

pub loop-place-init : goal.loop-place-init
loop-place-init c = no_pairs c.args.out.now.items

pub loop-place-preserved : goal.loop-place-preserved
loop-place-preserved c =
    point_step c.args.points.now c.loop-place.place _ c.args.out.now.items c.loop-place.out.items c.push_point.new.out.items c.loop-place-test.true c.loop-place.invariant c.in_ok-push_point.ensures
