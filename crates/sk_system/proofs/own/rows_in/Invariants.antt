use Rattle.std.proofs.Common.{◌≡◌, ◌++◌, drop, map}
use Rattle.std.specs.List.{flat_map}
use Rattle.sk_geom.specs.Views.{source_of}
use Rattle.sk_expr.specs.Rows.{row_of}
use Rattle.sk_system.specs.OwnRows.{named_entity_rows}
use Rattle.sk_system.proofs.own.rows_in.Given as goal

abbrev pub invariant-loop-e : goal.invariant-loop-e
invariant-loop-e g l =
    let o = source_of {s = g.row.S} l.source in
    map (row_of {s = g.row.S}) l.rows.items ++ flat_map (named_entity_rows o) (drop l.e-index l.own) ≡ flat_map (named_entity_rows o) l.own
