use Rattle.std.proofs.Common.{◌≡◌, ◌^◌, ◌<◌, length, arith, rules, sym, ◌∙◌}
use Rattle.std.specs.Char.{digit_value}
use Rattle.sk_num.proofs.Weights.{weighing-is, weighing_stop, weighing_end, weighing_more, weight_falls, weight_below}
use Rattle.sk_num.proofs.decimal.read_decimals.Goals as goal

pub returns-in_err-digit-clause-number : goal.returns-in_err-digit-clause-number
returns-in_err-digit-clause-number c =
    let ds = c.args.digits.now in
    let e : 0 < length ds = grind (arith, c.if-is_empty.ensures) in
    c.from_residual.ensures
    ∙ sym (weighing_stop c.loop-byte.weight c.loop-byte.value c.loop-byte.byte-index ds c.from.result (omega arith) (search rules) c.in_err-digit.ensures.value)
    ∙ c.loop-byte.invariant.same ∙ weighing-is ds e

pub loop-byte-preserved : goal.loop-byte-preserved
loop-byte-preserved c =
    let v = c.in_ok-digit.ensures.value in
    let d : c.from-in-loop-byte.result ≡ digit_value c.from.result = c.from-in-loop-byte.ensures ∙ v.1 in
    record {
      same = weighing_more c.loop-byte.weight c.loop-byte.value c.loop-byte.byte-index c.args.digits.now c.from.result c.from-in-loop-byte.result (omega arith) (search rules) v.0 d ∙ c.loop-byte.invariant.same;
      within = weight_falls c.loop-byte.value c.loop-byte.weight c.from-in-loop-byte.result (10 ^ 20) (omega (arith, d, v.0)) c.loop-byte.invariant.within;
      below = weight_below c.loop-byte.value c.loop-byte.weight c.from-in-loop-byte.result (10 ^ 20) (omega (arith, d, v.0)) c.loop-byte.invariant.within c.loop-byte.invariant.below;
    }

pub returns-clause-number : goal.returns-clause-number
returns-clause-number c =
    let ds = c.args.digits.now in
    let e : 0 < length ds = grind (arith, c.if-is_empty.ensures) in
    sym (weighing_end c.loop-byte.weight c.loop-byte.value c.loop-byte.byte-index ds (omega arith))
    ∙ c.loop-byte.invariant.same ∙ weighing-is ds e
