use Rattle.std.proofs.Common.{◌≡◌, ◌++◌}
use Rattle.std.specs.List.{filter_map}
use Rattle.sk_link.specs.Part.{present_in}
use Rattle.sk_link.proofs.part.present.Given as goal

abbrev pub invariant-loop-entity : goal.invariant-loop-entity
invariant-loop-entity g l = l.entities.items ++ filter_map (λ e. e) l.entity-iterator ≡ present_in l.fn.counted.entries
