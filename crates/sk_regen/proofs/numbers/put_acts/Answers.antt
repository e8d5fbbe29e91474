use Rattle.std.proofs.Common.{refl, sym, subst, lit≤}
use Rattle.std.specs.List.Sorted.{IsStrictlySortedBy}
use Rattle.std.specs.Ordering.{nat_cmp}
use Rattle.sk_regen.proofs.Placing.{acts-more, acts-all}
use Rattle.sk_regen.proofs.numbers.put_acts.Goals as goal

pub loop-reading-init : goal.loop-reading-init
loop-reading-init g c = (refl, refl)

pub put_act-requires : goal.put_act-requires
put_act-requires g c = (lit≤ tt, subst (IsStrictlySortedBy nat_cmp) (sym c.loop-reading.invariant.1) c.requires)

pub loop-reading-preserved : goal.loop-reading-preserved
loop-reading-preserved g c =
    acts-more c.args.readings.now c.args.acts.now c.loop-reading.acts c.put_act.new.acts c.loop-reading.reading-index c.reading-item.result c.loop-reading-test.true c.reading-item.is c.put_act.ensures.value c.loop-reading.invariant

pub returns-clause-value : goal.returns-clause-value
returns-clause-value g c = acts-all c.args.readings.now c.args.acts.now c.loop-reading.acts c.loop-reading.reading-index c.loop-reading-test.false c.loop-reading.invariant

pub returns-clause-handles : goal.returns-clause-handles
returns-clause-handles g c = c.loop-reading.invariant.1
