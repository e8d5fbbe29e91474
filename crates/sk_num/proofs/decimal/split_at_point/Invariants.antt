use Rattle.std.proofs.Common.{◌≡◌, ◌++◌, take, drop}
use Rattle.sk_num.specs.Decimals.{at_point}
use Rattle.sk_num.proofs.decimal.split_at_point.Given as goal

abbrev pub invariant-loop-i : goal.invariant-loop-i
invariant-loop-i l = record {
  front : (at_point l.text).front ≡ take l.i l.text ++ (at_point (drop l.i l.text)).front;
  back : (at_point l.text).back ≡ (at_point (drop l.i l.text)).back;
}
