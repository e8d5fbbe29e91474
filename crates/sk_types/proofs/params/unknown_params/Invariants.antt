use Rattle.std.proofs.Common.{◌≡◌, take}
use Rattle.std.specs.Prelude.{◌==◌}
use Rattle.std.specs.List.{filter, flat_map}
use Rattle.sk_types.specs.Params.{free_params}
use Rattle.sk_types.proofs.params.unknown_params.Given as goal

abbrev pub invariant-loop-entity : goal.invariant-loop-entity
invariant-loop-entity g l = l.params.items ≡ flat_map (free_params l.constraints) (filter (λ e. e.group.0 == l.group.id.0) (take l.entity-index l.entities))
