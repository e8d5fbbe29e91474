use Rattle.std.proofs.Common.{arith, sym, ◌∙◌}
use Rattle.sk_entity.proofs.OwnOfParts.{one_more, of_point, of_shape}
use Rattle.sk_entity.proofs.params.request_params.Goals as goal

pub returns-then-r-eq-DATUM_POINT : goal.returns-then-r-eq-DATUM_POINT
returns-then-r-eq-DATUM_POINT c = λ s. of_point s c.args.r.now _ c.new-params.result.items c.if-r-eq-DATUM_POINT.true c.new-params.ensures.items (c.in_ok-add_point.ensures s)

pub loop-i-preserved : goal.loop-i-preserved
loop-i-preserved c = λ s. one_more s c.args.r.now c.loop-i.i c.loop-i.params.items _ (c.loop-i.invariant s) (c.in_ok-add_point-2.ensures s)

pub returns : goal.returns
returns c = λ s.
    of_shape s c.args.r.now c.in-Some.shape c.loop-i.i c.loop-i.params.items c.add_normal.new.params.items _ c.if-r-eq-DATUM_POINT.false (sym c.in-Some.is ∙ c.shape_of.ensures.shape) (omega arith) (c.loop-i.invariant s) (c.in_ok-add_normal.ensures s) (c.in_ok-add_distance.ensures s)
