use Rattle.sk_model.proofs.ListsSteps.{changes_step, sources_step}
use Rattle.sk_model.proofs.changes.changes_of_lists.Goals as goal

pub loop-list-preserved : goal.loop-list-preserved
loop-list-preserved g c = record {
  changes = changes_step c.args.groups.now c.args.lists.now c.loop-list.list-index c.list-item.result c.loop-list-test.true c.list-item.result c.list-item.is c.loop-list.changes c.push_list.new.changes c.loop-list.invariant.changes c.in_ok-push_list.ensures.changes;
  sources = sources_step c.args.groups.now c.args.lists.now c.loop-list.list-index c.list-item.result c.loop-list-test.true c.list-item.result c.list-item.is c.loop-list.invariant.sources c.in_ok-push_list.ensures.sources;
}
