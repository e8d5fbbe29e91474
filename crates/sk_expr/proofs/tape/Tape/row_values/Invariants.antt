use Rattle.std.proofs.Common.{◌≡◌, Some, take}
use Rattle.sk_expr.specs.SpanValue.{span_value}
use Rattle.sk_expr.specs.Tapes.{plain_tape, row_tree}
use Rattle.sk_num.specs.Each.{each_some}
use Rattle.sk_expr.proofs.tape.Tape.row_values.Given as goal

abbrev pub invariant-loop-row : goal.invariant-loop-row
invariant-loop-row g l = each_some (λ r. span_value g.row.S l.unknowns l.cosines (row_tree (plain_tape l.self) r)) (take l.row-index l.rows) ≡ Some l.values.items
