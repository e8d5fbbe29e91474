use Rattle.std.proofs.Common.{◌≡◌, ℕ, List, true, refl, sym, subst, map, lit≤}
use Rattle.std.specs.List.Sorted.{IsStrictlySortedBy}
use Rattle.std.specs.Ordering.{nat_cmp}
use Rattle.sk_types.specs.declared.entity.ParamValue.{ParamValue}
use Rattle.sk_types.specs.Lookups.{value_handle}
use Rattle.sk_model.specs.Chain.{seen_in}
use Rattle.sk_regen.proofs.Placing.{params-more, params-all}
use Rattle.sk_regen.proofs.numbers.put_params.Goals as goal

pub loop-value-init : goal.loop-value-init
loop-value-init g c = (refl, refl)

pub put_param-requires : goal.put_param-requires
put_param-requires g c =
    let same = c.loop-value.invariant.1 in
    let q = c.value-item.result in
    let stands : seen_in q.id.0 (map value_handle c.args.params.now) ≡ true = subst (λ (p : ParamValue g.row.S). seen_in p.id.0 (map value_handle c.args.params.now) ≡ true) (sym c.value-item.is) (c.requires.stand c.loop-value.value-index q c.loop-value-test.true) in
    (lit≤ tt, (subst (IsStrictlySortedBy nat_cmp) (sym same) c.requires.rise, subst (λ (ids : List ℕ). seen_in q.id.0 ids ≡ true) (sym same) stands))

pub loop-value-preserved : goal.loop-value-preserved
loop-value-preserved g c =
    let q = c.value-item.result in
    let stands : seen_in q.id.0 (map value_handle c.args.params.now) ≡ true = subst (λ (p : ParamValue g.row.S). seen_in p.id.0 (map value_handle c.args.params.now) ≡ true) (sym c.value-item.is) (c.requires.stand c.loop-value.value-index q c.loop-value-test.true) in
    params-more c.args.values.now c.args.params.now c.loop-value.params c.put_param.new.params c.loop-value.value-index q c.loop-value-test.true c.value-item.is
    (subst (λ (ids : List ℕ). seen_in q.id.0 ids ≡ true) (sym c.loop-value.invariant.1) stands) c.put_param.ensures c.loop-value.invariant

pub returns-clause-value : goal.returns-clause-value
returns-clause-value g c = params-all c.args.values.now c.args.params.now c.loop-value.params c.loop-value.value-index c.loop-value-test.false c.loop-value.invariant

pub returns-clause-handles : goal.returns-clause-handles
returns-clause-handles g c = c.loop-value.invariant.1
