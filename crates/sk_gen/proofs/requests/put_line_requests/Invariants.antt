use Rattle.std.proofs.Common.{◌≡◌, ◌++◌}
use Rattle.sk_gen.specs.MadeModel.{of_lines, line_request}
use Rattle.sk_gen.proofs.requests.put_line_requests.Given as goal

abbrev pub invariant-loop-k : goal.invariant-loop-k
invariant-loop-k l = l.out.items ≡ l.fn.out.items ++ of_lines l.k line_request
