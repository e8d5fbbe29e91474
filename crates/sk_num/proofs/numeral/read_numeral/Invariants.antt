use Rattle.std.proofs.Common.{◌≡◌, ◌≤◌, drop}
use Rattle.sk_num.proofs.Capped.{capped}
use Rattle.sk_num.proofs.numeral.read_numeral.Given as goal

abbrev pub invariant-loop-byte : goal.invariant-loop-byte
invariant-loop-byte l = record {
  same : capped l.base l.most l.value (drop l.byte-index l.digits) ≡ capped l.base l.most 0 l.digits;
  within : l.value ≤ l.most;
}
