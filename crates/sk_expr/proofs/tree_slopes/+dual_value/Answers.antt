use Rattle.std.proofs.Common.{sym, ◌∙◌}
use Rattle.sk_expr.specs.AbsentSlope.{unknown-dual}
use Rattle.sk_expr.proofs.tree_slopes.+dual_value.Goals as goal

pub returns-in-Var : goal.returns-in-Var
returns-in-Var g t c = rw c.in-Var.is (c.unknown_dual.ensures ∙ sym (unknown-dual g.row.S c.args.column c.in-Var.place c.args.unknowns.now))
