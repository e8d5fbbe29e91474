use Rattle.std.proofs.Common.{◌≡◌, ◌++◌, drop, map}
use Rattle.sk_expr.specs.declared.row.Row.{Row}
use Rattle.sk_system.proofs.visit.names_of.Given as goal

abbrev pub invariant-loop-row : goal.invariant-loop-row
invariant-loop-row g l = l.names.items ++ map (λ (r : Row g.row.S). r.name) (drop l.row-index l.rows) ≡ map (λ (r : Row g.row.S). r.name) l.rows
