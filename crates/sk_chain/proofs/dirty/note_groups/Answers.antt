use Rattle.sk_types.specs.declared.handle.GroupId.{GroupId}
use Rattle.sk_chain.specs.Dependence.{group_leans}
use Rattle.sk_chain.proofs.Noting.{left_all, list_done, list_more}
use Rattle.sk_chain.proofs.dirty.note_groups.Goals as goal

pub loop-group-init : goal.loop-group-init
loop-group-init g c = left_all c.args.places.now.keys c.args.table.now.items _

pub loop-group-preserved : goal.loop-group-preserved
loop-group-preserved g c =
    list_more c.args.places.now.keys c.args.table.now.items c.loop-group.table.items _ (λ (later earlier : GroupId). group_leans c.args.entities.now later earlier) c.args.groups.now c.loop-group.group-index c.group-item.result _ _ c.loop-group-test.true c.group-item.is c.loop-group.invariant c.in_ok-note_group.ensures

pub returns : goal.returns
returns g c = list_done c.args.places.now.keys c.args.table.now.items _ (λ (later earlier : GroupId). group_leans c.args.entities.now later earlier) c.args.groups.now c.loop-group.group-index _ c.loop-group-test.false c.loop-group.invariant
