use Rattle.std.proofs.Common.{rules, ap, ◌∙◌, Some}
use Rattle.std.proofs.lemmas.List.Sorted.{answers_always}
use Rattle.sk_types.specs.Lookups.{act_handle}
use Rattle.sk_types.specs.SearchLaws.{searched_there, searched_absent}
use Rattle.sk_types.proofs.lookups.act_at.Goals as goal

pub returns-in-Ok : goal.returns-in-Ok
returns-in-Ok g c =
    let by_handle = c.in-Ok.ensures.position act_handle (answers_always _ _ _ (λ f a r g called. search rules)) in
    ap Some c.index-acts-place.is ∙ searched_there act_handle c.args.id.0 c.args.acts.now c.in-Ok.place c.index-acts-place.result c.requires c.in-Ok.ensures.bound by_handle

pub returns-in-Err : goal.returns-in-Err
returns-in-Err g c =
    let by_handle = c.in-Err.ensures.position act_handle (answers_always _ _ _ (λ f a r g called. search rules)) in
    searched_absent act_handle c.args.id.0 c.args.acts.now c.in-Err.field-0 c.requires by_handle
