use Rattle.std.proofs.Common.{◌≡◌, ◌++◌, drop}
use Rattle.sk_records.specs.Holding.Changes.{with_list, list_rest}
use Rattle.sk_records.proofs.lists.with_list.Given as goal

abbrev pub invariant-loop-row : goal.invariant-loop-row
invariant-loop-row l = l.out.items ++ list_rest l.put l.new (drop l.row-index l.rows) ≡ with_list l.new l.rows
