use Rattle.std.proofs.Common.{◌≡◌, take}
use Rattle.std.specs.Prelude.{count_by}
use Rattle.sk_types.proofs.Circles.{is_there, is_needed_arc}
use Rattle.sk_types.proofs.sizes.arcs_of.Given as goal

abbrev pub invariant-loop-need : goal.invariant-loop-need
invariant-loop-need g l = l.arcs ≡ count_by (is_there (is_needed_arc l.entities)) (take l.need-index l.need-items)
