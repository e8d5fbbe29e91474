use Rattle.std.proofs.Common.{◌≡◌, take}
use Rattle.std.specs.List.{filter}
use Rattle.sk_session.specs.Opening.{is_linked}
use Rattle.sk_session.proofs.reading.linked.Given as goal

abbrev pub invariant-loop-group : goal.invariant-loop-group
invariant-loop-group g l = l.linked.items ≡ filter is_linked (take l.group-index l.groups)
