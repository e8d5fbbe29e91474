use Rattle.std.proofs.Common.{rules, refl, ap, ◌∙◌, subst, map, List, Err}
use Rattle.std.specs.List.Sorted.{IsBinarySearchResult}
use Rattle.std.specs.Ordering.{nat_cmp}
use Rattle.std.proofs.lemmas.List.Sorted.{answers_always}
use Rattle.sk_types.specs.declared.entity.Act.{Act}
use Rattle.sk_types.specs.Lookups.{act_handle}
use Rattle.sk_types.specs.SearchLaws.{searched_absent}
use Rattle.sk_regen.proofs.Placing.{found-in, absent-first, first-handles}
use Rattle.sk_regen.proofs.numbers.put_act.Goals as goal

pub returns-in-Ok-clause-value : goal.returns-in-Ok-clause-value
returns-in-Ok-clause-value g c =
    c.put.ensures ∙ found-in act_handle c.args.act.entity.0 (λ (b : Act g.row.S). c.args.act) c.args.acts.now c.as_slice.result.now c.in-Ok.place c.args.act c.as_slice.ensures c.requires c.in-Ok.ensures.bound
    (c.in-Ok.ensures.position act_handle (answers_always _ _ _ (λ f a r g called. search rules)))

pub returns-in-Ok-clause-handles : goal.returns-in-Ok-clause-handles
returns-in-Ok-clause-handles g c =
    let value = c.put.ensures ∙ found-in act_handle c.args.act.entity.0 (λ (b : Act g.row.S). c.args.act) c.args.acts.now c.as_slice.result.now c.in-Ok.place c.args.act c.as_slice.ensures c.requires c.in-Ok.ensures.bound
    (c.in-Ok.ensures.position act_handle (answers_always _ _ _ (λ f a r g called. search rules))) in
    ap (map act_handle) value ∙ first-handles act_handle c.args.act.entity.0 (λ (b : Act g.row.S). c.args.act) (λ b same. same) c.args.acts.now

pub returns-in_default-clause-value : goal.returns-in_default-clause-value
returns-in_default-clause-value g c =
    let absent = c.in_default.ensures.position act_handle (answers_always _ _ _ (λ f a r g called. search rules)) in
    absent-first act_handle c.args.act.entity.0 (λ (b : Act g.row.S). c.args.act) c.args.acts.now
    (searched_absent act_handle c.args.act.entity.0 c.args.acts.now c.in_default.field-0 c.requires
    (subst (λ (acts : List (Act g.row.S)). IsBinarySearchResult (λ a. nat_cmp (act_handle a) c.args.act.entity.0) acts (Err c.in_default.field-0)) c.as_slice.ensures absent))

pub returns-in_default-clause-handles : goal.returns-in_default-clause-handles
returns-in_default-clause-handles g c = refl
