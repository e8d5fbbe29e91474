use Rattle.sk_types.specs.declared.handle.GroupId.{GroupId}
use Rattle.sk_chain.specs.Dependence.{constraint_leans}
use Rattle.sk_chain.proofs.Noting.{left_all, list_done, list_more}
use Rattle.sk_chain.proofs.dirty.note_constraints.Goals as goal

pub loop-constraint-init : goal.loop-constraint-init
loop-constraint-init g c = left_all c.args.places.now.keys c.args.table.now.items _

pub loop-constraint-preserved : goal.loop-constraint-preserved
loop-constraint-preserved g c =
    list_more c.args.places.now.keys c.args.table.now.items c.loop-constraint.table.items _ (λ (later earlier : GroupId). constraint_leans c.args.entities.now later earlier) c.args.constraints.now c.loop-constraint.constraint-index c.constraint-item.result _ _ c.loop-constraint-test.true c.constraint-item.is c.loop-constraint.invariant c.in_ok-note_constraint.ensures

pub returns : goal.returns
returns g c = list_done c.args.places.now.keys c.args.table.now.items _ (λ (later earlier : GroupId). constraint_leans c.args.entities.now later earlier) c.args.constraints.now c.loop-constraint.constraint-index _ c.loop-constraint-test.false c.loop-constraint.invariant
