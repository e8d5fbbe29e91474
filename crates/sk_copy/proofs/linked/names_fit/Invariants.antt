use Rattle.std.proofs.Common.{◌≡◌, take, true}
use Rattle.std.specs.List.{list_all}
use Rattle.sk_types.specs.Kinds.{is_point}
use Rattle.sk_copy.specs.Wanted.{is_there_as}
use Rattle.sk_copy.proofs.linked.names_fit.Given as goal

abbrev pub invariant-loop-point : goal.invariant-loop-point
invariant-loop-point g l = list_all (is_there_as is_point l.source) (take l.point-index l.point-items) ≡ true
