use Rattle.std.proofs.Common.{◌≡◌, ◌≤◌, length, take}
use Rattle.sk_chain.specs.Made.{all_made}
use Rattle.sk_chain.proofs.made.are_many.Given as goal

abbrev pub invariant-loop-one : goal.invariant-loop-one
invariant-loop-one g l = record {
  count : l.count ≡ length (all_made (take l.one-index l.made));
  few : l.count ≤ 200000;
}
