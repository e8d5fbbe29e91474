use Rattle.std.proofs.Common.{◌≡◌, ◌≤◌}
use Rattle.sk_app.specs.Command.{count_of}
use Rattle.sk_app.proofs.Counts.{written_from}
use Rattle.sk_app.proofs.command.read_count.Given as goal

abbrev pub invariant-loop-count : goal.invariant-loop-count
invariant-loop-count l = record {
  least : 1 ≤ l.count;
  most : l.count ≤ 91;
  rest : count_of l.word ≡ written_from l.count l.word;
}
