use Rattle.sk_copy.specs.Known.{number_at}
use Rattle.sk_copy.specs.Copies.{end_faces, extrude_as, first_point}
use Rattle.sk_copy.proofs.Making.{flat_step}
use Rattle.sk_copy.proofs.extrude.extrude.Goals as goal

pub loop-entity-preserved : goal.loop-entity-preserved
loop-entity-preserved g c =
    flat_step (extrude_as c.args.group.now (number_at c.args.numbers.now)) c.args.source.now c.loop-entity.entity-index c.entity-item.result c.loop-entity-test.true c.entity-item.is
    (end_faces c.args.group.now (number_at c.args.numbers.now) (first_point c.args.source.now)) c.loop-entity.made.items _ c.loop-entity.invariant c.in_ok-add_extruded.ensures
