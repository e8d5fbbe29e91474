use Rattle.std.proofs.Common.{◌≡◌, ◌+◌, ◌^◌, ◌≤◌, ◌<◌, drop}
use Rattle.sk_num.proofs.Weights.{weighing}
use Rattle.sk_num.proofs.decimal.read_decimals.Given as goal

abbrev pub invariant-loop-byte : goal.invariant-loop-byte
invariant-loop-byte l = record {
  same : weighing l.weight l.value (drop l.byte-index l.digits) ≡ weighing (10 ^ 20) 0 l.digits;
  within : l.value + l.weight ≤ 10 ^ 20;
  below : l.value < 10 ^ 20;
}
