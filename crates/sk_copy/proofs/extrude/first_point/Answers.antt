use Rattle.std.proofs.Common.{sym}
use Rattle.sk_copy.proofs.Making.{point_here, point_later, no_point}
use Rattle.sk_copy.proofs.extrude.first_point.Goals as goal

pub returns-then-is_point : goal.returns-then-is_point
returns-then-is_point g c = point_here c.args.source.now c.loop-entity.entity-index c.entity-item.result c.loop-entity-test.true c.entity-item.is (sym c.if-is_point.ensures) c.loop-entity.invariant

pub loop-entity-preserved : goal.loop-entity-preserved
loop-entity-preserved g c = point_later c.args.source.now c.loop-entity.entity-index c.entity-item.result c.loop-entity-test.true c.entity-item.is (sym c.if-is_point.ensures) c.loop-entity.invariant

pub returns : goal.returns
returns g c = no_point c.args.source.now c.loop-entity.entity-index c.loop-entity-test.false c.loop-entity.invariant
