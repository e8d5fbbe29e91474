use Rattle.std.proofs.Common.{◌≡◌, take, [], Ok}
use Rattle.sk_chain.specs.Known.{AllOwn}
use Rattle.sk_chain.specs.Made.{made_from}
use Rattle.sk_chain.specs.Order.{groups_in_order}
use Rattle.sk_chain.proofs.making.groups_made.Given as goal

abbrev pub invariant-loop-id : goal.invariant-loop-id
invariant-loop-id g l = record {
  done : made_from l.model.lists.requests l.model.lists.groups l.parts [] (take l.id-index (groups_in_order l.model.lists.groups)) ≡ Ok l.made.items;
  own : AllOwn l.model.lists.requests l.model.lists.groups l.made.items;
}
