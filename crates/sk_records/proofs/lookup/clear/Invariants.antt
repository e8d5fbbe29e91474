use Rattle.std.proofs.Common.{◌≡◌, ◌++◌, ℕ, map, length, take, drop, Option}
use Rattle.sk_records.proofs.FoundLemmas.{nowhere}
use Rattle.sk_records.proofs.lookup.clear.Given as goal

abbrev pub invariant-loop-i : goal.invariant-loop-i
invariant-loop-i l = record {
  same : take l.i l.found ++ map (λ (o : Option ℕ). nowhere) (drop l.i l.found) ≡ map (λ (o : Option ℕ). nowhere) l.initial.found;
  rest : drop l.i l.found ≡ drop l.i l.initial.found;
  len : length l.found ≡ length l.initial.found;
}
