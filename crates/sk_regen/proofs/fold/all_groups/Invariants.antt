use Rattle.std.proofs.Common.{◌≡◌, ◌++◌, drop}
use Rattle.std.specs.List.{filter}
use Rattle.sk_regen.specs.NewText.{is_reported}
use Rattle.sk_regen.proofs.fold.all_groups.Given as goal

abbrev pub invariant-loop-group : goal.invariant-loop-group
invariant-loop-group g l = l.groups.items ++ filter is_reported (drop l.group-index l.order) ≡ filter is_reported l.order
