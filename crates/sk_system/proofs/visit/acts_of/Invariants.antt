use Rattle.std.proofs.Common.{◌≡◌, ◌++◌, drop, map}
use Rattle.sk_expr.specs.Visits.{grown_of}
use Rattle.sk_system.specs.GroupSystem.{act_of}
use Rattle.sk_system.specs.Views.{numbers_view}
use Rattle.sk_system.proofs.visit.acts_of.Given as goal

abbrev pub invariant-loop-n : goal.invariant-loop-n
invariant-loop-n g l = l.acts.items ++ map (act_of {s = g.row.S} (grown_of {s = g.row.S} l.seen)) (map (numbers_view {s = g.row.S}) (drop l.n-index l.numbers)) ≡ map (act_of {s = g.row.S} (grown_of {s = g.row.S} l.seen)) (map (numbers_view {s = g.row.S}) l.numbers)
