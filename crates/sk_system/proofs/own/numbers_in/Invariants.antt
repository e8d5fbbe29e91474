use Rattle.std.proofs.Common.{◌≡◌, ◌++◌, drop, map}
use Rattle.std.specs.List.{flat_map}
use Rattle.sk_geom.specs.Views.{source_of}
use Rattle.sk_system.specs.OwnRows.{own_numbers}
use Rattle.sk_system.specs.Views.{numbers_view}
use Rattle.sk_system.proofs.own.numbers_in.Given as goal

abbrev pub invariant-loop-e : goal.invariant-loop-e
invariant-loop-e g l =
    let o = source_of {s = g.row.S} l.source in
    map (numbers_view {s = g.row.S}) l.numbers.items ++ flat_map (own_numbers o) (drop l.e-index l.own) ≡ flat_map (own_numbers o) l.own
