use Rattle.std.proofs.Common.{◌≡◌, ◌++◌}
use Rattle.sk_gen.specs.MadeModel.{of_lines, line_parameters}
use Rattle.sk_gen.proofs.chain.put_line_parameters.Given as goal

abbrev pub invariant-loop-k : goal.invariant-loop-k
invariant-loop-k l = l.out.items ≡ l.fn.out.items ++ of_lines l.k line_parameters
