use Rattle.std.proofs.Common.{◌<◌, ◌^◌}
use Rattle.sk_num.specs.Limit.{IsInLimit}
use Rattle.sk_types.specs.declared.entity.ParamValue.{ParamValue}
use Rattle.sk_model.proofs.ManySteps.{changes_step, added_step, lines_step, item_more}
use Rattle.sk_model.proofs.changes.param_changes.Goals as goal

pub loop-param-preserved : goal.loop-param-preserved
loop-param-preserved g c = record {
  changes = changes_step c.args.params.now c.args.values.now c.loop-param.param-index c.param-item.result c.loop-param-test.true c.param-item.result c.param-item.is c.loop-param.set.changes c.push_set.new.set.changes c.loop-param.invariant.changes c.in_ok-push_set.ensures.changes;
  lines = lines_step c.args.params.now c.args.values.now c.loop-param.param-index c.param-item.result c.loop-param-test.true c.param-item.result c.param-item.is c.loop-param.set.lines.items c.push_set.new.set.lines.items c.loop-param.invariant.lines c.in_ok-push_set.ensures.lines;
  added = added_step c.args.params.now c.args.values.now c.loop-param.param-index c.param-item.result c.loop-param-test.true c.param-item.result c.param-item.is c.loop-param.set.added.items c.push_set.new.set.added.items c.loop-param.invariant.added c.in_ok-push_set.ensures.added;
  fits = item_more (λ (p : ParamValue g.row.S). IsInLimit p.value) c.args.values.now c.loop-param.param-index c.param-item.result c.param-item.result c.loop-param-test.true c.param-item.is c.loop-param.invariant.fits c.in_ok-push_set.ensures.fits.0;
  small = item_more (λ (p : ParamValue g.row.S). p.id.0 < 2 ^ 32) c.args.values.now c.loop-param.param-index c.param-item.result c.param-item.result c.loop-param-test.true c.param-item.is c.loop-param.invariant.small c.in_ok-push_set.ensures.fits.1;
}
