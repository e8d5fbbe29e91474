use Rattle.std.proofs.Common.{◌++◌}
use Rattle.sk_types.specs.Params.{group_params}
use Rattle.sk_regen.proofs.Noughts.{noughts, noughts_of, noughts_of-gives}
use Rattle.sk_regen.proofs.Pushing.{PushedAt}
use Rattle.sk_regen.proofs.blank.push_of_groups.Given as goal

abbrev pub invariant-loop-group : goal.invariant-loop-group
invariant-loop-group g l = PushedAt (noughts_of group_params) (λ x. noughts (group_params x)) (noughts_of-gives group_params) l.groups (l.initial.params.items ++ noughts_of group_params l.groups) l.params.items l.group-index
