use Rattle.std.proofs.Common.{◌≡◌, ◌+◌, ◌≤◌, drop}
use Rattle.sk_model.specs.Typed.{count_linked}
use Rattle.sk_model.proofs.whole.count_linked.Given as goal

abbrev pub invariant-loop-group : goal.invariant-loop-group
invariant-loop-group g l = record { rest : l.count + count_linked (drop l.group-index l.groups) ≡ count_linked l.groups; few : l.count ≤ l.group-index }
