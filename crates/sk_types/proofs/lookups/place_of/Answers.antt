use Rattle.std.proofs.Common.{rules}
use Rattle.std.proofs.lemmas.List.Sorted.{answers_always}
use Rattle.sk_types.specs.Lookups.{param_handle}
use Rattle.sk_types.specs.SearchLaws.{searched_place, searched_unplaced}
use Rattle.sk_types.proofs.lookups.place_of.Goals as goal

pub returns-in-Ok-clause-place : goal.returns-in-Ok-clause-place
returns-in-Ok-clause-place c =
    let by_handle = c.in-Ok.ensures.position param_handle (answers_always _ _ _ (λ f a r g called. search rules)) in
    searched_place param_handle c.args.handle c.args.params.now c.in-Ok.place (record { 0 = 0 }) c.requires c.in-Ok.ensures.bound by_handle

pub returns-in-Err-clause-place : goal.returns-in-Err-clause-place
returns-in-Err-clause-place c =
    let by_handle = c.in-Err.ensures.position param_handle (answers_always _ _ _ (λ f a r g called. search rules)) in
    searched_unplaced param_handle c.args.handle c.args.params.now c.in-Err.field-0 c.requires by_handle
