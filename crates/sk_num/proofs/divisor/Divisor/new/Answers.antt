use Rattle.std.proofs.Common.{arith}
use Rattle.std.proofs.lemmas.Nat.{leading_le}
use Rattle.sk_num.specs.Scale.{IsScale-bounds}
use Rattle.sk_num.proofs.divisor.Divisor.new.Goals as goal

pub overflow_sub-result : goal.overflow_sub-result
overflow_sub-result g c = omega (arith, IsScale-bounds c.requires.scale, leading_le 64 c.unsigned_abs-size.result)

pub invariant_of-result : goal.invariant_of-result
invariant_of-result g c =
    record {
      not_zero = c.requires.not_zero;
      from_one = omega (arith, IsScale-bounds c.requires.scale, leading_le 64 c.unsigned_abs-size.result);
      below = omega (arith, IsScale-bounds c.requires.scale, leading_le 64 c.unsigned_abs-size.result);
    }
