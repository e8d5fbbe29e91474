use Rattle.std.specs.Prelude.{◌==◌, ◌&&◌}
use Rattle.std.proofs.Common.{drop}
use Rattle.sk_types.specs.declared.handle.GroupId.{GroupId}
use Rattle.sk_chain.specs.Dependence.{constraint_leans, is_needed}
use Rattle.sk_chain.proofs.Needed.{placed_any}
use Rattle.sk_chain.proofs.Noting.{Left}
use Rattle.sk_chain.proofs.dirty.note_constraint.Given as goal

abbrev pub invariant-loop-need : goal.invariant-loop-need
invariant-loop-need g l =
    Left l.places.keys l.fn.table.items l.table.items (λ (g h : GroupId). l.constraint.group.0 == g.0 && placed_any (is_needed l.entities h) (drop l.need-index l.need-items)) (λ (g h : GroupId). constraint_leans l.entities g h l.constraint)
