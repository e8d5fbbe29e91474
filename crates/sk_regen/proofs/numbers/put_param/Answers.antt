use Rattle.std.proofs.Common.{rules, subst, ◌∙◌, List, Err}
use Rattle.std.specs.List.Sorted.{IsBinarySearchResult}
use Rattle.std.specs.Ordering.{nat_cmp}
use Rattle.std.proofs.lemmas.List.Sorted.{answers_always}
use Rattle.sk_types.specs.declared.entity.ParamValue.{ParamValue}
use Rattle.sk_types.specs.Lookups.{value_handle}
use Rattle.sk_types.specs.SearchLaws.{searched_absent}
use Rattle.sk_regen.proofs.Placing.{param-found, param-absent}
use Rattle.sk_regen.proofs.numbers.put_param.Goals as goal

pub returns-in-Ok : goal.returns-in-Ok
returns-in-Ok g c =
    c.put.ensures ∙ param-found c.args.param.id.0 c.args.param.value c.args.params.now c.as_slice.result.now c.in-Ok.place c.args.param c.as_slice.ensures c.requires.rise c.requires.stands c.in-Ok.ensures.bound
    (c.in-Ok.ensures.position value_handle (answers_always _ _ _ (λ f a r g called. search rules)))

pub returns-in_default : goal.returns-in_default
returns-in_default g c =
    let absent = c.in_default.ensures.position value_handle (answers_always _ _ _ (λ f a r g called. search rules)) in
    param-absent c.args.param.id.0 c.args.param.value c.args.params.now c.requires.stands
    (searched_absent value_handle c.args.param.id.0 c.args.params.now c.in_default.field-0 c.requires.rise
    (subst (λ (ps : List (ParamValue g.row.S)). IsBinarySearchResult (λ p. nat_cmp (value_handle p) c.args.param.id.0) ps (Err c.in_default.field-0)) c.as_slice.ensures absent))
