use Rattle.std.proofs.Common.{rules}
use Rattle.std.proofs.lemmas.List.Sorted.{answers_always}
use Rattle.sk_types.specs.Lookups.{value_handle}
use Rattle.sk_types.specs.SearchLaws.{searched_there, searched_absent, value_there, value_absent}
use Rattle.sk_types.proofs.lookups.value_of.Goals as goal

pub returns-in-Ok : goal.returns-in-Ok
returns-in-Ok g c =
    let by_handle = c.in-Ok.ensures.position value_handle (answers_always _ _ _ (λ f a r g called. search rules)) in
    value_there c.args.handle c.args.params.now _ (searched_there value_handle c.args.handle c.args.params.now c.in-Ok.place c.index-params-place.result c.requires c.in-Ok.ensures.bound by_handle)

pub returns-in-Err : goal.returns-in-Err
returns-in-Err g c =
    let by_handle = c.in-Err.ensures.position value_handle (answers_always _ _ _ (λ f a r g called. search rules)) in
    value_absent c.args.handle c.args.params.now (searched_absent value_handle c.args.handle c.args.params.now c.in-Err.field-0 c.requires by_handle)
