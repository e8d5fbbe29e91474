use Rattle.std.proofs.Common.{refl, sym, ◌∙◌}
use Rattle.sk_model.proofs.HandleSteps.{values_step, handles_step}
use Rattle.sk_model.proofs.changes.set_values.Goals as goal

pub loop-param-preserved : goal.loop-param-preserved
loop-param-preserved g c =
    let at = sym c.get_index_of.ensures.index ∙ c.unwrap-place.ensures in
    record {
      params = values_step c.args.params.now c.loop-param.params c.args.handles.now.keys c.args.values.now c.loop-param.param-index c.unwrap-place.result c.param-item.result c.index-params-place.result _ c.loop-param-test.true c.param-item.result c.param-item.is c.loop-param.invariant.params c.loop-param.invariant.handles at refl _ refl;
      handles = handles_step c.args.params.now c.loop-param.params c.args.handles.now.keys c.args.values.now c.loop-param.param-index c.unwrap-place.result c.param-item.result c.index-params-place.result _ c.loop-param-test.true c.param-item.result c.param-item.is c.loop-param.invariant.params c.loop-param.invariant.handles at refl _ refl;
    }
