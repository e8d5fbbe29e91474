use Rattle.std.proofs.Common.{rules}
use Rattle.std.proofs.lemmas.Result.{on_ok_weaker}
use Rattle.std.proofs.lemmas.List.Sorted.{answers_always}
use Rattle.sk_types.specs.Lookups.{entity_handle}
use Rattle.sk_copy.specs.OrderLaws.{sorted_is_in_order}
use Rattle.sk_copy.proofs.order.put_in_order.Goals as goal

pub returns : goal.returns
returns g c =
    on_ok_weaker c.sort_by_key.result
    (λ up. sorted_is_in_order entity_handle c.args.entities.now.items c.sort_by_key.new.self.items
    (up entity_handle (answers_always _ _ _ (λ f a r f' h. search rules)))
    (c.sort_by_key.ensures.stable entity_handle (answers_always _ _ _ (λ f a r f' h. search rules))))
    c.sort_by_key.ensures.sorted
