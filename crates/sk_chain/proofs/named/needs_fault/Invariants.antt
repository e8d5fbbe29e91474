use Rattle.std.proofs.Common.{◌≡◌, drop}
use Rattle.sk_types.specs.Needs.{needs_of}
use Rattle.sk_chain.specs.Outlines.{first_fault, need_fault}
use Rattle.sk_chain.proofs.Needed.{placed_fault}
use Rattle.sk_chain.proofs.named.needs_fault.Given as goal

abbrev pub invariant-loop-need : goal.invariant-loop-need
invariant-loop-need g l =
    placed_fault (need_fault l.places.keys l.entities l.constraint.id.0 l.constraint.group) (drop l.need-index l.need-items) ≡ first_fault (need_fault l.places.keys l.entities l.constraint.id.0 l.constraint.group) (needs_of l.constraint.kind l.constraint.points l.constraint.entities)
