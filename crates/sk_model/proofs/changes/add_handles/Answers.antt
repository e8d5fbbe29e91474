use Rattle.sk_model.proofs.HandleSteps.{keys_step}
use Rattle.sk_model.proofs.changes.add_handles.Goals as goal

pub loop-param-preserved : goal.loop-param-preserved
loop-param-preserved g c =
    keys_step c.args.handles.now.keys c.args.added.now c.loop-param.param-index c.param-item.result c.loop-param-test.true c.requires.new c.requires.distinct c.param-item.result c.param-item.is c.loop-param.handles.keys c.insert.new.self.keys c.loop-param.invariant c.in-Ok.ensures.keys
