use Rattle.std.proofs.Common.{◌≡◌, drop}
use Rattle.std.specs.List.{list_any}
use Rattle.sk_types.specs.Needs.{needs_of}
use Rattle.sk_chain.specs.Dependence.{is_needed}
use Rattle.sk_chain.proofs.Needed.{placed_any}
use Rattle.sk_chain.proofs.dependence.needs_one.Given as goal

abbrev pub invariant-loop-need : goal.invariant-loop-need
invariant-loop-need g l =
    placed_any (is_needed l.entities l.earlier) (drop l.need-index l.need-items) ≡ list_any (is_needed l.entities l.earlier) (needs_of l.constraint.kind l.constraint.points l.constraint.entities)
