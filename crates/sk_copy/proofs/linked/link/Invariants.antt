use Rattle.std.proofs.Common.{◌≡◌, take, Some}
use Rattle.std.specs.List.{filter}
use Rattle.sk_num.specs.Each.{each_some}
use Rattle.sk_copy.specs.Known.{number_at}
use Rattle.sk_copy.specs.Wanted.{is_linked}
use Rattle.sk_copy.specs.Copies.{linked_copy}
use Rattle.sk_copy.proofs.linked.link.Given as goal

abbrev pub invariant-loop-entity : goal.invariant-loop-entity
invariant-loop-entity g l = each_some (linked_copy l.group (number_at l.numbers)) (filter (is_linked l.source) (take l.entity-index l.source)) ≡ Some l.made.items
