use Rattle.sk_model.specs.Settable.{IsWritable}
use Rattle.sk_model.proofs.ManySteps.{item_more}
use Rattle.sk_model.proofs.EntityLines.{entity_step}
use Rattle.sk_model.proofs.entity_records.entity_text.Goals as goal

pub loop-entity-preserved : goal.loop-entity-preserved
loop-entity-preserved g c = record {
  text = entity_step c.args.acts.now c.args.entities.now c.loop-entity.entity-index c.entity-item.result c.entity-item.result c.loop-entity.out.items c.push_entity.new.out.items c.loop-entity-test.true c.entity-item.is c.loop-entity.invariant.text c.in_ok-push_entity.ensures.lines;
  writable = item_more (IsWritable c.args.acts.now) c.args.entities.now c.loop-entity.entity-index c.entity-item.result c.entity-item.result c.loop-entity-test.true c.entity-item.is c.loop-entity.invariant.writable c.in_ok-push_entity.ensures.writable;
}
