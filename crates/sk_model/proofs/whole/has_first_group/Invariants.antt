use Rattle.std.proofs.Common.{◌≡◌, drop}
use Rattle.std.specs.List.{list_any}
use Rattle.sk_model.specs.Typed.{is_first_group}
use Rattle.sk_model.proofs.whole.has_first_group.Given as goal

abbrev pub invariant-loop-group : goal.invariant-loop-group
invariant-loop-group g l = list_any (λ x. is_first_group x) (drop l.group-index l.groups) ≡ list_any (λ x. is_first_group x) l.groups
