use Rattle.std.proofs.Common.{length, arith, rules, ◌<◌, sym, ◌∙◌}
use Rattle.sk_num.proofs.Capped.{capped_is, capped_stop, capped_end}
use Rattle.sk_num.proofs.numeral.read_numeral.Goals as goal

pub returns-in_err-digit : goal.returns-in_err-digit
returns-in_err-digit c =
    let ds = c.args.digits.now in
    let e : 0 < length ds = grind (arith, c.if-is_empty.ensures) in
    c.from_residual.ensures
    ∙ sym (capped_stop c.args.base c.args.most c.loop-byte.value c.loop-byte.byte-index ds c.from.result (omega arith) (search rules) c.in_err-digit.ensures.value)
    ∙ c.loop-byte.invariant.same ∙ capped_is c.args.base c.args.most ds (omega arith) e

pub returns : goal.returns
returns c =
    let ds = c.args.digits.now in
    let e : 0 < length ds = grind (arith, c.if-is_empty.ensures) in
    sym (capped_end c.args.base c.args.most c.loop-byte.value c.loop-byte.byte-index ds (omega arith))
    ∙ c.loop-byte.invariant.same ∙ capped_is c.args.base c.args.most ds (omega arith) e
