use Rattle.std.proofs.Common.{◌≡◌, drop, map}
use Rattle.std.specs.List.{list_all}
use Rattle.sk_expr.specs.Visits.{grown_of}
use Rattle.sk_system.specs.GroupSystem.{is_within}
use Rattle.sk_system.specs.Views.{numbers_view}
use Rattle.sk_system.proofs.visit.are_within.Given as goal

abbrev pub invariant-loop-n : goal.invariant-loop-n
invariant-loop-n g l = list_all (is_within g.row.S (grown_of {s = g.row.S} l.seen)) (map (numbers_view {s = g.row.S}) (drop l.n-index l.numbers)) ≡ list_all (is_within g.row.S (grown_of {s = g.row.S} l.seen)) (map (numbers_view {s = g.row.S}) l.numbers)
