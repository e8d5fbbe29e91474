use Rattle.std.proofs.Common.{◌≡◌, ◌+◌, ◌++◌, length}
use Rattle.sk_expr.specs.ForwardSlopes.{operation_of, merged}
use Rattle.sk_expr.proofs.forward.Merge.merged.Given as goal

abbrev pub invariant-loop-pair : goal.invariant-loop-pair
invariant-loop-pair g l =
    l.out.items ++ merged (operation_of g.row.S l.self.operation) l.self.first.now l.self.second.now l.rest.0.now l.rest.1.now
    ≡ merged (operation_of g.row.S l.self.operation) l.self.first.now l.self.second.now l.first l.second

abbrev pub decreases-loop-pair : goal.decreases-loop-pair
decreases-loop-pair g l = length l.rest.0.now + length l.rest.1.now
