use Rattle.std.proofs.Common.{◌++◌}
use Rattle.sk_types.specs.Params.{own_params}
use Rattle.sk_regen.proofs.Noughts.{noughts, noughts_of, noughts_of-gives}
use Rattle.sk_regen.proofs.Pushing.{PushedAt}
use Rattle.sk_regen.proofs.blank.push_of_entities.Given as goal

abbrev pub invariant-loop-entity : goal.invariant-loop-entity
invariant-loop-entity g l = PushedAt (noughts_of own_params) (λ x. noughts (own_params x)) (noughts_of-gives own_params) l.entities (l.initial.params.items ++ noughts_of own_params l.entities) l.params.items l.entity-index
