use Rattle.std.proofs.Common.{[]}
use Rattle.sk_copy.specs.Known.{number_at}
use Rattle.sk_copy.specs.Copies.{translate_as}
use Rattle.sk_copy.proofs.Making.{flat_step}
use Rattle.sk_copy.proofs.translate.translate.Goals as goal

pub loop-entity-preserved : goal.loop-entity-preserved
loop-entity-preserved g c =
    flat_step (translate_as c.args.group.now (number_at c.args.numbers.now)) c.args.source.now c.loop-entity.entity-index c.entity-item.result c.loop-entity-test.true c.entity-item.is
    [] c.loop-entity.made.items _ c.loop-entity.invariant c.in_ok-add_translated.ensures
