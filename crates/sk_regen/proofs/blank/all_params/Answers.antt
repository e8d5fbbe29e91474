use Rattle.std.proofs.Common.{rules, ◌++◌, map, sym, ap, ◌∙◌}
use Rattle.std.specs.Prelude.{flat_map}
use Rattle.std.proofs.lemmas.List.{map-append}
use Rattle.std.proofs.lemmas.List.Sorted.{answers_always}
use Rattle.sk_types.specs.Lookups.{value_handle}
use Rattle.sk_types.specs.Params.{own_params, group_params}
use Rattle.sk_copy.specs.OrderLaws.{sorted_is_in_order}
use Rattle.sk_copy.specs.Order.{in_order}
use Rattle.sk_regen.specs.GroupWorks.{nought, param_before}
use Rattle.sk_regen.proofs.blank.all_params.Goals as goal

pub returns : goal.returns
returns g c =
    let items = c.in_ok-push_of_groups.ensures ∙ ap (λ l. l ++ map nought (flat_map group_params c.args.groups.now)) (c.in_ok-push_of_entities.ensures ∙ ap (λ l. l ++ map nought (flat_map own_params c.args.entities.now)) c.new-params.ensures.items)
    ∙ sym (map-append nought (flat_map own_params c.args.entities.now) (flat_map group_params c.args.groups.now)) in
    sorted_is_in_order value_handle c.push_of_groups.new.params.items c.sort_by_key.new.self.items
    (c.in_ok-sort_by_key.ensures.sorted value_handle (answers_always _ _ _ (λ f a r f' h. search rules)))
    (c.in_ok-sort_by_key.ensures.stable value_handle (answers_always _ _ _ (λ f a r f' h. search rules)))
    ∙ ap (in_order param_before) items
