use Rattle.sk_types.proofs.Unknowns.{all_free, free_more}
use Rattle.sk_types.proofs.params.unknown_params.Goals as goal

pub loop-entity-preserved : goal.loop-entity-preserved
loop-entity-preserved g c =
    free_more c.args.constraints.now c.args.group.now.id.0 c.in_ok-fixed.fixed c.args.entities.now c.loop-entity.entity-index c.entity-item.result c.loop-entity.params.items _ c.in_ok-fixed.ensures c.loop-entity-test.true c.loop-entity.invariant c.entity-item.is c.in_ok-push_free_params.ensures

pub returns : goal.returns
returns g c =
    all_free c.args.constraints.now c.args.entities.now c.args.group.now c.loop-entity.entity-index c.loop-entity.params.items _ c.loop-entity.invariant c.loop-entity-test.false c.in_ok-push_group_params.ensures
